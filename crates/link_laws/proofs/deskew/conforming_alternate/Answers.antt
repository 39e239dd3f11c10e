use Rattle.link_laws.proofs.Shapes.{alternating}
use Rattle.link_laws.proofs.deskew.conforming_alternate.Goals as goal

pub returns : goal.returns
returns c = alternating
