use Rattle.std.proofs.Common.{arith}
use Rattle.std.proofs.lemmas.Grind.{common_steps}
use Rattle.source_end.proofs.spell.guards.Goals as goal

pub column-requires-2 : goal.column-requires-2
column-requires-2 c = grind (arith, common_steps)

pub island_guard-requires-2 : goal.island_guard-requires-2
island_guard-requires-2 c = grind arith

pub returns-clause-ok : goal.returns-clause-ok
returns-clause-ok c = grind (arith, common_steps)
