use Rattle.lane_deskew.proofs.Gained.{room_left}
use Rattle.link_laws.proofs.deskew.room_left.Goals as goal

pub returns : goal.returns
returns c = room_left
