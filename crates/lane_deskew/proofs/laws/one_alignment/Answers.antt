use Rattle.lane_deskew.proofs.First.{one_first}
use Rattle.lane_deskew.proofs.laws.one_alignment.Goals as goal

pub returns : goal.returns
returns c = one_first
