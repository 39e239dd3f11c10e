use Rattle.relock_laws.proofs.Last.{local_is_last}
use Rattle.relock_laws.proofs.local_is_last_epoch.Goals as goal

pub returns : goal.returns
returns c = local_is_last
