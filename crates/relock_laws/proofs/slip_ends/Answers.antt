use Rattle.relock_laws.proofs.SlipEnds.{slip_ends}
use Rattle.relock_laws.proofs.slip_ends.Goals as goal

pub returns : goal.returns
returns c = slip_ends
