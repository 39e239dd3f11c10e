use Rattle.link_laws.proofs.Ends.{edges_end}
use Rattle.link_laws.proofs.link.edges_end.Goals as goal

pub returns : goal.returns
returns c = edges_end
