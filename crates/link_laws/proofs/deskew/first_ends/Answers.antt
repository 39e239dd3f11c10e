use Rattle.link_laws.proofs.LaneEnds.{first_ends}
use Rattle.link_laws.proofs.deskew.first_ends.Goals as goal

pub returns : goal.returns
returns c = first_ends
