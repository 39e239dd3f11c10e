use Rattle.std.proofs.Common.{◌≡◌, take, length, true}
use Rattle.listing_reader.specs.ContentForms.{are_words}
use Rattle.listing_reader.proofs.content_fields.to_words.Given as goal

abbrev pub invariant-loop-i : goal.invariant-loop-i
invariant-loop-i l = record {
  reported : take l.i l.into ≡ take l.i l.numbers;
  all : are_words (take l.i l.numbers) ≡ true;
  size : length l.into ≡ length l.numbers;
}
