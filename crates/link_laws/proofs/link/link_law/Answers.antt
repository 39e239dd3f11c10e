use Rattle.link_laws.proofs.Framing.{link_law}
use Rattle.link_laws.proofs.link.link_law.Goals as goal

pub returns : goal.returns
returns c = link_law
