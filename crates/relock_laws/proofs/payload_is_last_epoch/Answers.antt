use Rattle.relock_laws.proofs.Last.{payload_is_last}
use Rattle.relock_laws.proofs.payload_is_last_epoch.Goals as goal

pub returns : goal.returns
returns c = payload_is_last
