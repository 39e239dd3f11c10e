use Rattle.track_laws.proofs.Noticed.{second_epoch}
use Rattle.track_laws.proofs.second_epoch.Goals as goal

pub returns : goal.returns
returns c = second_epoch
