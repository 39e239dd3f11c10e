use Rattle.lane_deskew.proofs.Gained.{gained_fit}
use Rattle.link_laws.proofs.deskew.gained_fit.Goals as goal

pub returns : goal.returns
returns c = gained_fit
