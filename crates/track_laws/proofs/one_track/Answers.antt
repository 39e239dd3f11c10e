use Rattle.track_laws.proofs.One.{one_track}
use Rattle.track_laws.proofs.one_track.Goals as goal

pub returns : goal.returns
returns c = one_track
