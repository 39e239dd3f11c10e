use Rattle.relock_laws.proofs.Again.{recovers_again}
use Rattle.relock_laws.proofs.recovers_again.Goals as goal

pub returns : goal.returns
returns c = recovers_again
