use Rattle.relock_laws.proofs.SlipEnds.{slip_is_confirmed}
use Rattle.relock_laws.proofs.slip_is_confirmed.Goals as goal

pub returns : goal.returns
returns c = slip_is_confirmed
