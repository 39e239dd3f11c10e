use Rattle.lane_deskew.proofs.Fed.{first_stays}
use Rattle.link_laws.proofs.deskew.first_stays.Goals as goal

pub returns : goal.returns
returns c = first_stays
