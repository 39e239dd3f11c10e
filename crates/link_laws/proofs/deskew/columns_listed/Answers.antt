use Rattle.lane_deskew.proofs.Listed.{columns_listed}
use Rattle.link_laws.proofs.deskew.columns_listed.Goals as goal

pub returns : goal.returns
returns c = columns_listed
