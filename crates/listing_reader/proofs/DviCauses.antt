-- The causes for which a line of a listing without guard bands is refused.
use Rattle.std.proofs.Common.{arith, ◌≡◌, ℕ, true, List, ap, Result, Ok, ◌⊎◌}
use Rattle.std.specs.Prelude.{IsErr}
use Rattle.std.specs.Result.{IsErrAnd}
use Rattle.hex.specs.Hex.{decode_of}
use Rattle.island_pack.specs.Periods.{Period, video}
use Rattle.source_end.specs.Refusals.{dvi_push_fault}
use Rattle.listing_reader.specs.declared.fault.ListCause.TheVariants.{Form}
use Rattle.listing_reader.specs.declared.teller.Refusal.{Refusal}
use Rattle.listing_reader.specs.declared.teller.Refusal.TheVariants.{Cause, NoMemory}
use Rattle.listing_reader.specs.Forms.{video_by}
use Rattle.listing_reader.specs.Causes.{caused}
use Rattle.listing_reader.specs.DviReading.{dvi_line_cause}
use Rattle.listing_reader.specs.Reported.{AnswersCause}
use Rattle.listing_reader.proofs.Refused.{answers_undecoded, no_digits}
use Rattle.listing_reader.proofs.DviSteps.{none_wrong}

-- Pixels.

pub dvi_unread : (T : Type 0) (periods : List Period) (digits : List ℕ) (result : Result T Refusal) (refusal : Refusal) → (refusal ≡ NoMemory) ⊎ ((refusal ≡ Cause Form) × IsErr (decode_of digits))
    → IsErrAnd result (λ r. r ≡ refusal) → AnswersCause (dvi_line_cause periods (video_by true (decode_of digits))) result
dvi_unread T periods digits result refusal why h = grind (arith, answers_undecoded, no_digits, none_wrong)

pub dvi_pixels_pushed : (periods : List Period) (digits bytes : List ℕ) → decode_of digits ≡ Ok bytes → dvi_line_cause periods (video_by true (decode_of digits)) ≡ caused (dvi_push_fault periods (video bytes))
unfolding dvi_line_cause
dvi_pixels_pushed periods digits bytes e = ap (λ read. dvi_line_cause periods (video_by true read)) e
