use Rattle.track_laws.proofs.Noticed.{slip_noticed}
use Rattle.track_laws.proofs.slip_noticed.Goals as goal

pub returns : goal.returns
returns c = slip_noticed
