use Rattle.link_laws.proofs.Tapped.{payload_accounted}
use Rattle.link_laws.proofs.link.payload_accounted.Goals as goal

pub returns : goal.returns
returns c = payload_accounted
