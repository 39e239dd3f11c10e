use Rattle.link_laws.proofs.Tapped.{payload_accounted}
use Rattle.track_laws.proofs.First.{first_reported}
use Rattle.track_laws.proofs.first_reported.Goals as goal

pub returns : goal.returns
returns c = first_reported payload_accounted
