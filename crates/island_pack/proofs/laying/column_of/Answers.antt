use Rattle.std.proofs.Common.{arith}
use Rattle.island_pack.specs.Registers.{laid_nibbles, register_words}
use Rattle.island_pack.proofs.laying.column_of.Goals as goal

pub returns : goal.returns
unfolding laid_nibbles register_words
returns c = grind arith
