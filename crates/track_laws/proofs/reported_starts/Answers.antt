use Rattle.track_laws.proofs.Starting.{reported_starts}
use Rattle.track_laws.proofs.reported_starts.Goals as goal

pub returns : goal.returns
returns c = reported_starts
