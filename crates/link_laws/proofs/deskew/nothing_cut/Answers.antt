use Rattle.lane_deskew.proofs.Gained.{nothing_cut}
use Rattle.link_laws.proofs.deskew.nothing_cut.Goals as goal

pub returns : goal.returns
returns c = nothing_cut
