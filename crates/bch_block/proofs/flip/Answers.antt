use Rattle.std.proofs.Common.{arith}
use Rattle.bch_block.proofs.Bytes.{flipped-bits_of, weight_of}
use Rattle.bch_block.proofs.flip.Goals as goal

pub returns : goal.returns
returns c = grind (arith, weight_of, flipped-bits_of)
