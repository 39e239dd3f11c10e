use Rattle.dvi_laws.proofs.Lanes.{edges_end}
use Rattle.dvi_laws.proofs.dvi_edges_end.Goals as goal

pub returns : goal.returns
returns c = edges_end
