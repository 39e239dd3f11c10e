use Rattle.lane_deskew.proofs.Gained.{none_gained}
use Rattle.link_laws.proofs.deskew.none_gained.Goals as goal

pub returns : goal.returns
returns c = none_gained
