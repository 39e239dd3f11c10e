use Rattle.lane_track.proofs.Around.{strays_after}
use Rattle.lane_track.proofs.laws.strays_after.Goals as goal

pub returns : goal.returns
returns c = strays_after
