use Rattle.std.proofs.Common.{arith}
use Rattle.tmds_word.proofs.Fives.{four_of}
use Rattle.tmds_word.proofs.packing.four.Goals as goal

pub returns-clause-bits : goal.returns-clause-bits
returns-clause-bits c = grind (arith, four_of)
