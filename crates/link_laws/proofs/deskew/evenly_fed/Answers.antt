use Rattle.lane_deskew.proofs.Fed.{evenly_fed}
use Rattle.link_laws.proofs.deskew.evenly_fed.Goals as goal

pub returns : goal.returns
returns c = evenly_fed
