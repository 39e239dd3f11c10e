use Rattle.relock_laws.proofs.Last.{until_is_last}
use Rattle.relock_laws.proofs.until_is_last_epoch.Goals as goal

pub returns : goal.returns
returns c = until_is_last
