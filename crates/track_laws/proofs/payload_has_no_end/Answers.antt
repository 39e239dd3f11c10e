use Rattle.track_laws.proofs.Ends.{payload_has_no_end}
use Rattle.track_laws.proofs.payload_has_no_end.Goals as goal

pub returns : goal.returns
returns c = payload_has_no_end
