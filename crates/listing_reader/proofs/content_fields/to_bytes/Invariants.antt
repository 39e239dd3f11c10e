use Rattle.std.proofs.Common.{◌≡◌, take, length, true}
use Rattle.listing_reader.specs.ContentForms.{are_bytes}
use Rattle.listing_reader.proofs.content_fields.to_bytes.Given as goal

abbrev pub invariant-loop-i : goal.invariant-loop-i
invariant-loop-i l = record {
  reported : take l.i l.into ≡ take l.i l.numbers;
  all : are_bytes (take l.i l.numbers) ≡ true;
  size : length l.into ≡ length l.numbers;
}
