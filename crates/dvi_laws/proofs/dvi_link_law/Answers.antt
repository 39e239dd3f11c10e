use Rattle.dvi_laws.proofs.Starting.{link_law}
use Rattle.dvi_laws.proofs.dvi_link_law.Goals as goal

pub returns : goal.returns
returns c = link_law
