use Rattle.std.proofs.Common.{arith}
use Rattle.capture_commands.proofs.Answered.{frames_end}
use Rattle.capture_commands.proofs.Taken.{frames_stop}
use Rattle.capture_commands.proofs.commands.read_biphase.read_biphase.Goals as goal

pub returns-clause-ends : goal.returns-clause-ends
returns-clause-ends g c = grind (arith, frames_end)

pub returns-clause-stops : goal.returns-clause-stops
returns-clause-stops g c = grind (arith, frames_stop)

pub returns-clause-taken : goal.returns-clause-taken
returns-clause-taken g c = c.list_biphase.ensures.taken
