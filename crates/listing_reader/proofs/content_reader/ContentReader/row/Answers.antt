use Rattle.std.proofs.Common.{arith}
use Rattle.std.proofs.lemmas.Grind.{common_steps}
use Rattle.listing_reader.proofs.content_reader.ContentReader.row.Goals as goal

pub invariant_of-reader : goal.invariant_of-reader
invariant_of-reader c = grind (arith, common_steps)
