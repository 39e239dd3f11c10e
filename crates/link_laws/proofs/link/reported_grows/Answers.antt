use Rattle.link_laws.proofs.Growth.{reported_grows}
use Rattle.link_laws.proofs.link.reported_grows.Goals as goal

pub returns : goal.returns
returns c = reported_grows
