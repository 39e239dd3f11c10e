use Rattle.link_laws.proofs.LaneEnds.{edge_ends}
use Rattle.link_laws.proofs.deskew.edges_end.Goals as goal

pub returns : goal.returns
returns c = edge_ends
