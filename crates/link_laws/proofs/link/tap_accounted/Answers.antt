use Rattle.link_laws.proofs.Tapped.{tap_accounted}
use Rattle.link_laws.proofs.link.tap_accounted.Goals as goal

pub returns : goal.returns
returns c = tap_accounted
