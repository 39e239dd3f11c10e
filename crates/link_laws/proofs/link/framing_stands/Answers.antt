use Rattle.link_laws.proofs.Framing.{framing_stands}
use Rattle.link_laws.proofs.link.framing_stands.Goals as goal

pub returns : goal.returns
returns c = framing_stands
