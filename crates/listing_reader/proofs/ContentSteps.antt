-- What a line of a content listing does to what is kept of the lines before it: it is refused, is taken, or ends the listing.
use Rattle.std.proofs.Common.{◌≡◌, ℕ, ◌+◌, ◌<◌, ◌≤◌, Bool, true, false, if◌then◌else◌, List, ◌++◌, length, refl, ap, sym, ◌∙◌, arith, length-append}
use Rattle.std.specs.Prelude.{Option, Some, None, Result, Ok, Err, IfOk, nat_lt}
use Rattle.std.proofs.lemmas.Bool.{cases_lt, lt-ltb}
use Rattle.audio_packets.specs.declared.sample.Sample.{Sample}
use Rattle.hex.specs.declared.error.FromHexError.{FromHexError}
use Rattle.source_end.specs.Content.{Frame}
use Rattle.source_end.specs.declared.mode.Mode.{Mode}
use Rattle.source_end.specs.declared.refusal.RasterFault.{RasterFault}
use Rattle.listing_reader.specs.declared.fault.ListCause.{ListCause}
use Rattle.listing_reader.specs.declared.fault.ListCause.TheVariants.{Fault, Form}
use Rattle.listing_reader.specs.declared.teller.Refusal.{Refusal}
use Rattle.listing_reader.specs.declared.teller.Taken.{Taken}
use Rattle.listing_reader.specs.declared.teller.Taken.TheVariants.{More, End}
use Rattle.listing_reader.specs.LineSteps.{LineStep, tells, closes, wrong}
use Rattle.listing_reader.specs.Forms.{is_fault}
use Rattle.listing_reader.specs.ContentForms.{ContentLine, mode_line, row_line, row_by, frame_line, packet_line, sample_line, end_line, fault_line, no_line, content_form_of, digits_line, numbers_line}
use Rattle.listing_reader.specs.ContentDrafts.{with_samples}
use Rattle.listing_reader.specs.ContentKept.{ContentKept, closed_kept, frames_or, is_reported, kept_cause, kept_lines, kept_step, kept_step_by, with_kept}
use Rattle.listing_reader.specs.ContentReported.{pending}
use Rattle.listing_reader.specs.Reported.{AnswersCause}
use Rattle.listing_reader.specs.Taken.{Takes, CountsLine}
use Rattle.listing_reader.proofs.ContentFrames.{end_reported, pending_one}
use Rattle.listing_reader.proofs.LongForm.{fault_first}
use Rattle.listing_reader.proofs.Refused.{cause_none}
use Rattle.listing_reader.proofs.Steps.{IsListing, step_tells}

-- the line `end`
abbrev is_content_end : ContentLine → Bool
is_content_end end_line = true
is_content_end _ = false

given : (k : ContentKept) (form : ContentLine) → kept_cause k form ≡ None → is_content_end form ≡ false → kept_step_by None form k ≡ tells (with_kept form k)
given k (mode_line mode) none more = refl
given k (row_line bytes) none more = refl
given k (frame_line width height) none more = refl
given k (packet_line packet) none more = refl
given k (sample_line sample) none more = refl
given k end_line none more = absurd cc
given k fault_line none more = refl
given k no_line none more = refl

pub content_listing : IsListing ContentLine ContentKept (Result (Mode × List Frame) RasterFault) kept_cause kept_step_by with_kept is_content_end
content_listing = record { refuses = λ k form cause. refl; gives = given }

-- a line `row` that is one of digits
pub row_tells : (T : Type 0) (k now : ContentKept) (form : ContentLine) (read : Result (List ℕ) FromHexError) (done : T) → form ≡ row_by true read → AnswersCause (kept_cause k (row_by true read)) (Ok done) → now ≡ with_kept (row_by true read) k
    → kept_step_by (kept_cause k form) form k ≡ tells now
unfolding kept_cause
row_tells T k now form (Ok bytes) done same answers is = step_tells content_listing T k now form (row_line bytes) done same answers refl is
row_tells T k now form (Err error) done same answers is = absurd answers

end_mode : (k : ContentKept) → kept_cause k end_line ≡ None → (mode : Mode) × (k.mode ≡ Some mode)
end_mode k none = there k.mode (end_reported k none) where
  there : (m : Option Mode) → is_reported m ≡ true → (mode : Mode) × (m ≡ Some mode)
  there None h = absurd (cc h)
  there (Some mode) h = (mode, refl)

pub step_closes : (T : Type 0) (k : ContentKept) (whole : Result (Mode × List Frame) RasterFault) (form : ContentLine) (done : T) → form ≡ end_line → AnswersCause (kept_cause k end_line) (Ok done)
    → ((mode : Mode) → k.mode ≡ Some mode → whole ≡ frames_or mode k.fault k.frames) → kept_step_by (kept_cause k form) form k ≡ closes whole
step_closes T k whole form done same answers is =
    let none = cause_none {T = T} (kept_cause k end_line) done answers in
    let m = end_mode k none in
    ap (λ (f : ContentLine). kept_step_by (kept_cause k f) f k) same
    ∙ ap (λ (c : Option ListCause). kept_step_by c end_line k) none
    ∙ ap (closed_kept k) m.1
    ∙ ap closes (sym (is m.0 m.1))

pub fault_wrong : (k : ContentKept) → kept_cause k fault_line ≡ Some Fault
unfolding kept_cause
fault_wrong k = refl

-- ---- lines of no byte, and of too many

pub none_wrong : (draft : ContentKept) → kept_cause draft no_line ≡ Some Form
unfolding kept_cause
none_wrong draft = refl

pub taken_some : (draft : ContentKept) (line : List ℕ) → kept_cause draft (content_form_of line) ≡ None → 1 ≤ length line
unfolding content_form_of is_fault digits_line numbers_line
taken_some draft line h = grind (arith, none_wrong)

long_form : (line : List ℕ) → 32768 < length line → content_form_of line ≡ (if is_fault line then fault_line else no_line)
unfolding content_form_of
long_form line long = let e : nat_lt 32768 (length line) ≡ true = lt-ltb 32768 (length line) long in rw e refl

pub taken_short : (draft : ContentKept) (line : List ℕ) → kept_cause draft (content_form_of line) ≡ None → length line ≤ 32768
unfolding kept_cause
taken_short draft line h = grind (arith, cases_lt, long_form, none_wrong)

pub step_long : (draft : ContentKept) (line : List ℕ) → 32768 < length line → (more : List ℕ) → kept_step draft (line ++ more) ≡ kept_step draft line
unfolding kept_step
step_long draft line long more = grind (arith, long_form, length-append, fault_first)

-- ---- how many lines said it

pub samples_count : (samples : List Sample) (f : Frame) → length (with_samples samples f).packets ≡ length f.packets + pending samples
samples_count samples f = grind (arith, length-append)

-- a line gives one event more at most
pub more_lines : (form : ContentLine) (k : ContentKept) → kept_lines (with_kept form k) ≤ kept_lines k + 1
more_lines form k = grind (arith, pending_one)

-- so many lines at least said what a line gives
abbrev lines_in : LineStep ContentKept (Result (Mode × List Frame) RasterFault) → ℕ
lines_in (tells k) = kept_lines k
lines_in (closes whole) = 0
lines_in (wrong cause) = 0

few_in : (cause : Option ListCause) (form : ContentLine) (k : ContentKept) → lines_in (kept_step_by cause form k) ≤ kept_lines k + 1
few_in (Some cause) form k = omega arith
few_in None (mode_line mode) k = more_lines (mode_line mode) k
few_in None (row_line bytes) k = more_lines (row_line bytes) k
few_in None (frame_line width height) k = more_lines (frame_line width height) k
few_in None (packet_line packet) k = more_lines (packet_line packet) k
few_in None (sample_line sample) k = more_lines (sample_line sample) k
few_in None end_line k = by k.mode
  where
    by : (m : Option Mode) → lines_in (closed_kept k m) ≤ kept_lines k + 1
    by None = omega arith
    by (Some mode) = omega arith
few_in None fault_line k = omega arith
few_in None no_line k = omega arith

pub counted : (k : ContentKept) (form : ContentLine) (result : Result (Taken ContentKept (Result (Mode × List Frame) RasterFault)) Refusal) → Takes (kept_step_by (kept_cause k form) form k) result
    → IfOk result (CountsLine kept_lines (kept_lines k))
counted k form (Ok (More now)) h = omega (arith, few_in (kept_cause k form) form k, ap lines_in h)
counted k form (Ok (End whole)) h = tt
counted k form (Err refusal) h = tt
