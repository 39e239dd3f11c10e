use Rattle.link_laws.proofs.LaneEnds.{one_end}
use Rattle.link_laws.proofs.deskew.one_end.Goals as goal

pub returns : goal.returns
returns c = one_end
