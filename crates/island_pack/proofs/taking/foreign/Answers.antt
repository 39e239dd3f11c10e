use Rattle.std.proofs.Common.{arith}
use Rattle.island_pack.proofs.Rows.{count_of_set}
use Rattle.island_pack.proofs.taking.foreign.Goals as goal

pub returns-clause-value : goal.returns-clause-value
returns-clause-value c = grind (arith, count_of_set)
