use Rattle.std.proofs.Common.{◌≡◌, MatchOption, length, take}
use Rattle.std.specs.Prelude.{Some}
use Rattle.listing_reader.specs.ContentForms.{fields_of, numbers_of}
use Rattle.listing_reader.proofs.ContentLines.{after_numbers}
use Rattle.listing_reader.proofs.content_fields.numbers.Given as goal

abbrev pub invariant-loop-i : goal.invariant-loop-i
invariant-loop-i l = record {
  reported : MatchOption l.rest (numbers_of (fields_of l.text) ≡ Some (take l.i l.into))
      (λ left. numbers_of (fields_of l.text) ≡ after_numbers (take l.i l.into) (numbers_of (fields_of left.now)));
  size : length l.into ≡ length l.initial.into;
}
