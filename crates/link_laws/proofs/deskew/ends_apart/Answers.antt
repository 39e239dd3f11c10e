use Rattle.link_laws.proofs.Shapes.{ends_apart}
use Rattle.link_laws.proofs.deskew.ends_apart.Goals as goal

pub returns : goal.returns
returns c = ends_apart
