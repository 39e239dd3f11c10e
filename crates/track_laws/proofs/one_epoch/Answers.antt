use Rattle.track_laws.proofs.Calm.{one_epoch}
use Rattle.track_laws.proofs.one_epoch.Goals as goal

pub returns : goal.returns
returns c = one_epoch
