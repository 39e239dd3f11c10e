use Rattle.link_laws.proofs.Growth.{whole_grows}
use Rattle.link_laws.proofs.link.whole_grows.Goals as goal

pub returns : goal.returns
returns c = whole_grows
