use Rattle.dvi_laws.proofs.Shape.{ends_apart}
use Rattle.dvi_laws.proofs.dvi_ends_apart.Goals as goal

pub returns : goal.returns
returns c = ends_apart
