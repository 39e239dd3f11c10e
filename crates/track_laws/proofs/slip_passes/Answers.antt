use Rattle.track_laws.proofs.Noticed.{slip_passes}
use Rattle.track_laws.proofs.slip_passes.Goals as goal

pub returns : goal.returns
returns c = slip_passes
