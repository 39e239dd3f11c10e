use Rattle.link_laws.proofs.LaneEnds.{sparse_received}
use Rattle.link_laws.proofs.deskew.sparse_received.Goals as goal

pub returns : goal.returns
returns c = sparse_received
