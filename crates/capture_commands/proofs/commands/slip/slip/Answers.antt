use Rattle.std.proofs.Common.{arith}
use Rattle.capture_commands.proofs.Answered.{slipped_ends}
use Rattle.capture_commands.proofs.commands.slip.slip.Goals as goal

pub returns-clause-ends : goal.returns-clause-ends
returns-clause-ends g c = grind (arith, slipped_ends)

pub returns-clause-taken : goal.returns-clause-taken
returns-clause-taken g c = c.slip.ensures.taken
