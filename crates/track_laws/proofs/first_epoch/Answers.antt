use Rattle.track_laws.proofs.Before.{first_epoch}
use Rattle.track_laws.proofs.first_epoch.Goals as goal

pub returns : goal.returns
returns c = first_epoch
