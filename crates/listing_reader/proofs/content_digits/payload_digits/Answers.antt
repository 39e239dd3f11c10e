use Rattle.std.proofs.Common.{arith, length-take-le}
use Rattle.listing_reader.proofs.ContentLines.{zeros_after}
use Rattle.listing_reader.proofs.content_digits.payload_digits.Goals as goal

pub returns-then-hex_field-clause-zeros : goal.returns-then-hex_field-clause-zeros
returns-then-hex_field-clause-zeros c = grind (arith, zeros_after, length-take-le)
