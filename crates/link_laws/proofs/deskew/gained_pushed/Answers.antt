use Rattle.lane_deskew.proofs.Gained.{gained_pushed}
use Rattle.link_laws.proofs.deskew.gained_pushed.Goals as goal

pub returns : goal.returns
returns c = gained_pushed
