use Rattle.lane_deskew.proofs.First.{one_first}
use Rattle.link_laws.proofs.deskew.one_first.Goals as goal

pub returns : goal.returns
returns c = one_first
