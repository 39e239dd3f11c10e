-- What a line of a listing without guard bands does.
use Rattle.std.proofs.Common.{◌≡◌, ℕ, ◌<◌, true, false, List, ◌++◌, length, refl, ap, sym, subst, ◌∙◌, arith, inl, inr, ◌⊎◌}
use Rattle.std.specs.Prelude.{Option, Some, None, Result, Ok, Err, IsErrAnd, IfOk, slice_index}
use Rattle.hex.specs.declared.error.FromHexError.{FromHexError}
use Rattle.island_pack.specs.Periods.{Period}
use Rattle.island_pack.specs.declared.packet.Packet.{Packet}
use Rattle.source_end.specs.DviPeriods.{dvi_columns_of}
use Rattle.source_end.specs.Refusals.{close_fault}
use Rattle.listing_reader.specs.declared.fault.ListCause.{ListCause}
use Rattle.listing_reader.specs.declared.fault.ListCause.TheVariants.{Fault, Form}
use Rattle.listing_reader.specs.declared.teller.Refusal.{Refusal}
use Rattle.listing_reader.specs.declared.teller.Taken.{Taken}
use Rattle.listing_reader.specs.declared.teller.Taken.TheVariants.{More, End}
use Rattle.listing_reader.specs.LineSteps.{tells, closes, wrong}
use Rattle.listing_reader.specs.Forms.{LineForm, control_line, video_line, video_by, island_line, packet_line, close_line, end_line, fault_line, no_line}
use Rattle.listing_reader.specs.FormSeen.{IsForm}
use Rattle.listing_reader.specs.declared.form.Form.{Form as Seen}
use Rattle.listing_reader.specs.declared.form.Form.TheVariants.{Island, Packet as Packet_seen, Close, Other}
use Rattle.listing_reader.specs.Causes.{caused, run_cause_after}
use Rattle.listing_reader.specs.DviReading.{dvi_run_cause, dvi_line_cause, with_dvi_line, dvi_step_by, dvi_step}
use Rattle.listing_reader.specs.Reported.{AnswersCause}
use Rattle.listing_reader.specs.Taken.{Takes, CountsLine}
use Rattle.listing_reader.proofs.LongForm.{long_form_first}
use Rattle.listing_reader.proofs.Refused.{cause_none}
use Rattle.listing_reader.proofs.Steps.{IsListing, is_end, takes_refused, step_tells, step_wrong}

given : (periods : List Period) (form : LineForm) → dvi_line_cause periods form ≡ None → is_end form ≡ false → dvi_step_by None form periods ≡ tells (with_dvi_line form periods)
unfolding dvi_line_cause
given periods (control_line value count) none more = refl
given periods (video_line bytes) none more = refl
given periods (island_line a b) none more = absurd cc
given periods (packet_line p) none more = absurd cc
given periods (close_line a b) none more = absurd cc
given periods end_line none more = absurd cc
given periods fault_line none more = absurd cc
given periods no_line none more = absurd cc

pub dvi_listing : IsListing LineForm (List Period) (List Period) dvi_line_cause dvi_step_by with_dvi_line is_end
dvi_listing = record { refuses = λ periods form cause. refl; gives = given }

-- ---- the cause of a line, by its form

pub cause_run : (periods : List Period) (value count : ℕ) → dvi_line_cause periods (control_line value count) ≡ run_cause_after (dvi_columns_of periods) value count
unfolding dvi_line_cause dvi_run_cause
cause_run periods value count = refl

pub cause_end : (periods : List Period) → dvi_line_cause periods end_line ≡ caused (close_fault periods)
unfolding dvi_line_cause
cause_end periods = refl

pub fault_wrong : (periods : List Period) → dvi_line_cause periods fault_line ≡ Some Fault
unfolding dvi_line_cause
fault_wrong periods = refl

pub none_wrong : (periods : List Period) → dvi_line_cause periods no_line ≡ Some Form
unfolding dvi_line_cause
none_wrong periods = refl

-- ---- a line that is refused

pub run_refused : (T : Type 0) (periods : List Period) (form : LineForm) (value count : ℕ) (result : Result (Taken (List Period) (List Period)) Refusal) (refusal : Refusal) → form ≡ control_line value count
    → AnswersCause {T = T} (run_cause_after (dvi_columns_of periods) value count) (Err refusal) → IsErrAnd result (λ r. r ≡ refusal) → Takes (dvi_step_by (dvi_line_cause periods form) form periods) result
run_refused T periods form value count result refusal same h k =
    takes_refused dvi_listing T periods form (control_line value count) result refusal same (subst (λ (c : Option ListCause). AnswersCause {T = T} c (Err refusal)) (sym (cause_run periods value count)) h) k

pub end_refused : (T : Type 0) (periods : List Period) (form : LineForm) (result : Result (Taken (List Period) (List Period)) Refusal) (refusal : Refusal) → form ≡ end_line
    → AnswersCause {T = T} (caused (close_fault periods)) (Err refusal) → IsErrAnd result (λ r. r ≡ refusal) → Takes (dvi_step_by (dvi_line_cause periods form) form periods) result
end_refused T periods form result refusal same h k =
    takes_refused dvi_listing T periods form end_line result refusal same (subst (λ (c : Option ListCause). AnswersCause {T = T} c (Err refusal)) (sym (cause_end periods)) h) k

-- a line of a data island, or of no form
pub other_wrong : (periods : List Period) (form : LineForm) (seen : Seen) → IsForm seen form
    → ((sync : List ℕ) × (seen ≡ Island sync)) ⊎ (((packet : Packet) × (seen ≡ Packet_seen packet)) ⊎ (((sync : List ℕ) × (seen ≡ Close sync)) ⊎ (seen ≡ Other)))
    → dvi_step_by (dvi_line_cause periods form) form periods ≡ wrong Form
unfolding dvi_line_cause
other_wrong periods form seen h (inl x) =
    let is : form ≡ island_line (slice_index x.0 0) (slice_index x.0 1) = subst (λ (s : Seen). IsForm s form) x.1 h in
    step_wrong dvi_listing periods form Form (ap (dvi_line_cause periods) is)
other_wrong periods form seen h (inr (inl x)) =
    let is : form ≡ packet_line x.0 = subst (λ (s : Seen). IsForm s form) x.1 h in
    step_wrong dvi_listing periods form Form (ap (dvi_line_cause periods) is)
other_wrong periods form seen h (inr (inr (inl x))) =
    let is : form ≡ close_line (slice_index x.0 0) (slice_index x.0 1) = subst (λ (s : Seen). IsForm s form) x.1 h in
    step_wrong dvi_listing periods form Form (ap (dvi_line_cause periods) is)
other_wrong periods form seen h (inr (inr (inr e))) =
    let is : form ≡ no_line = subst (λ (s : Seen). IsForm s form) e h in
    step_wrong dvi_listing periods form Form (ap (dvi_line_cause periods) is)

-- ---- a line that is taken

pub run_tells : (T : Type 0) (periods now : List Period) (form : LineForm) (value count : ℕ) (done : T) → form ≡ control_line value count → AnswersCause (run_cause_after (dvi_columns_of periods) value count) (Ok done)
    → now ≡ with_dvi_line (control_line value count) periods → dvi_step_by (dvi_line_cause periods form) form periods ≡ tells now
run_tells T periods now form value count done same answers is =
    step_tells dvi_listing T periods now form (control_line value count) done same (subst (λ (c : Option ListCause). AnswersCause {T = T} c (Ok done)) (sym (cause_run periods value count)) answers) refl is

-- a line `v` that is one of digits
pub video_tells : (T : Type 0) (periods now : List Period) (form : LineForm) (read : Result (List ℕ) FromHexError) (done : T) → form ≡ video_by true read → AnswersCause (dvi_line_cause periods (video_by true read)) (Ok done)
    → now ≡ with_dvi_line (video_by true read) periods → dvi_step_by (dvi_line_cause periods form) form periods ≡ tells now
unfolding dvi_line_cause
video_tells T periods now form (Ok bytes) done same answers is = step_tells dvi_listing T periods now form (video_line bytes) done same answers refl is
video_tells T periods now form (Err error) done same answers is = absurd answers

pub step_closes : (T : Type 0) (periods stream : List Period) (form : LineForm) (done : T) → form ≡ end_line → AnswersCause (caused (close_fault periods)) (Ok done) → stream ≡ periods
    → dvi_step_by (dvi_line_cause periods form) form periods ≡ closes stream
step_closes T periods stream form done same answers is =
    ap (λ (f : LineForm). dvi_step_by (dvi_line_cause periods f) f periods) same
    ∙ ap (λ (c : Option ListCause). dvi_step_by c end_line periods) (cause_end periods ∙ cause_none {T = T} (caused (close_fault periods)) done answers)
    ∙ ap closes (sym is)

pub step_long : (periods : List Period) (line : List ℕ) → 32768 < length line → (more : List ℕ) → dvi_step periods (line ++ more) ≡ dvi_step periods line
unfolding dvi_step
step_long periods line long more = ap (λ (form : LineForm). dvi_step_by (dvi_line_cause periods form) form periods) (long_form_first line more long)

pub counted : (result : Result (Taken (List Period) (List Period)) Refusal) → IfOk result (CountsLine (λ p. 0) 0)
counted (Ok (More now)) = omega arith
counted (Ok (End now)) = tt
counted (Err refusal) = tt
