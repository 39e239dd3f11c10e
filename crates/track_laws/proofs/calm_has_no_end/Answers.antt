use Rattle.track_laws.proofs.Ends.{calm_has_no_end}
use Rattle.track_laws.proofs.calm_has_no_end.Goals as goal

pub returns : goal.returns
returns c = calm_has_no_end
