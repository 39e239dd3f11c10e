use Rattle.link_laws.proofs.Tapped.{payload_accounted}
use Rattle.track_laws.proofs.Second.{second_reported}
use Rattle.track_laws.proofs.second_reported.Goals as goal

pub returns : goal.returns
returns c = second_reported payload_accounted
