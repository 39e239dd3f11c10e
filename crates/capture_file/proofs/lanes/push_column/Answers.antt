use Rattle.std.proofs.Common.{arith}
use Rattle.std.proofs.lemmas.Grind.{common_steps}
use Rattle.capture_file.proofs.lanes.push_column.Goals as goal

pub returns-clause-blue_ok : goal.returns-clause-blue_ok
returns-clause-blue_ok c = grind (arith, common_steps)

pub returns-clause-green_ok : goal.returns-clause-green_ok
returns-clause-green_ok c = grind (arith, common_steps)

pub returns-clause-red_ok : goal.returns-clause-red_ok
returns-clause-red_ok c = grind (arith, common_steps)
