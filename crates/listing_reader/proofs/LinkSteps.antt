-- What a line of a link listing does.
use Rattle.std.proofs.Common.{◌≡◌, ℕ, ◌<◌, true, false, List, ◌++◌, length, refl, ap, sym, subst, ◌∙◌, arith}
use Rattle.std.specs.Prelude.{Option, Some, None, Result, Ok, Err, IsErrAnd, IfOk}
use Rattle.hex.specs.declared.error.FromHexError.{FromHexError}
use Rattle.island_pack.specs.Periods.{Period}
use Rattle.listing_reader.specs.declared.fault.ListCause.{ListCause}
use Rattle.listing_reader.specs.declared.fault.ListCause.TheVariants.{Fault, Form}
use Rattle.listing_reader.specs.declared.teller.Refusal.{Refusal}
use Rattle.listing_reader.specs.declared.teller.Taken.{Taken}
use Rattle.listing_reader.specs.declared.teller.Taken.TheVariants.{More, End}
use Rattle.listing_reader.specs.LineSteps.{tells, closes}
use Rattle.listing_reader.specs.Forms.{LineForm, control_line, video_line, video_by, island_line, packet_line, close_line, end_line, fault_line, no_line}
use Rattle.listing_reader.specs.Causes.{end_cause, line_cause}
use Rattle.listing_reader.specs.Drafts.{Draft, with_line}
use Rattle.listing_reader.specs.Reading.{link_step_by, link_step}
use Rattle.listing_reader.specs.Reported.{AnswersCause}
use Rattle.listing_reader.specs.Taken.{Takes, CountsLine}
use Rattle.listing_reader.proofs.LongForm.{long_form_first}
use Rattle.listing_reader.proofs.Refused.{cause_none, cause_end}
use Rattle.listing_reader.proofs.Steps.{IsListing, is_end, takes_refused, step_tells}

given : (draft : Draft) (form : LineForm) → line_cause draft form ≡ None → is_end form ≡ false → link_step_by None form draft ≡ tells (with_line form draft)
unfolding line_cause
given draft (control_line value count) none more = refl
given draft (video_line bytes) none more = refl
given draft (island_line a b) none more = refl
given draft (packet_line p) none more = refl
given draft (close_line a b) none more = refl
given draft end_line none more = absurd cc
given draft fault_line none more = absurd cc
given draft no_line none more = absurd cc

pub link_listing : IsListing LineForm Draft (List Period) line_cause link_step_by with_line is_end
link_listing = record { refuses = λ draft form cause. refl; gives = given }

pub end_refused : (T : Type 0) (draft : Draft) (form : LineForm) (result : Result (Taken Draft (List Period)) Refusal) (refusal : Refusal) → form ≡ end_line → AnswersCause {T = T} (end_cause draft) (Err refusal)
    → IsErrAnd result (λ r. r ≡ refusal) → Takes (link_step_by (line_cause draft form) form draft) result
end_refused T draft form result refusal same h k =
    takes_refused link_listing T draft form end_line result refusal same (subst (λ (s : Option ListCause). AnswersCause {T = T} s (Err refusal)) (sym (cause_end draft)) h) k

-- a line `v` that is one of digits
pub video_tells : (T : Type 0) (draft now : Draft) (form : LineForm) (read : Result (List ℕ) FromHexError) (done : T) → form ≡ video_by true read → AnswersCause (line_cause draft (video_by true read)) (Ok done) → now ≡ with_line (video_by true read) draft
    → link_step_by (line_cause draft form) form draft ≡ tells now
unfolding line_cause
video_tells T draft now form (Ok bytes) done same answers is = step_tells link_listing T draft now form (video_line bytes) done same answers refl is
video_tells T draft now form (Err error) done same answers is = absurd answers

pub step_closes : (T : Type 0) (draft : Draft) (stream : List Period) (form : LineForm) (done : T) → form ≡ end_line → AnswersCause (end_cause draft) (Ok done) → stream ≡ draft.periods → link_step_by (line_cause draft form) form draft ≡ closes stream
step_closes T draft stream form done same answers is =
    ap (λ (f : LineForm). link_step_by (line_cause draft f) f draft) same
    ∙ ap (λ (c : Option ListCause). link_step_by c end_line draft) (cause_end draft ∙ cause_none {T = T} (end_cause draft) done answers)
    ∙ ap closes (sym is)

pub fault_wrong : (draft : Draft) → line_cause draft fault_line ≡ Some Fault
unfolding line_cause
fault_wrong draft = refl

pub none_wrong : (draft : Draft) → line_cause draft no_line ≡ Some Form
unfolding line_cause
none_wrong draft = refl

pub step_long : (draft : Draft) (line : List ℕ) → 32768 < length line → (more : List ℕ) → link_step draft (line ++ more) ≡ link_step draft line
unfolding link_step
step_long draft line long more = ap (λ (form : LineForm). link_step_by (line_cause draft form) form draft) (long_form_first line more long)

pub counted : (result : Result (Taken Draft (List Period)) Refusal) → IfOk result (CountsLine (λ d. 0) 0)
counted (Ok (More now)) = omega arith
counted (Ok (End now)) = tt
counted (Err refusal) = tt
