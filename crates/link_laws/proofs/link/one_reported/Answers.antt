use Rattle.link_sink.proofs.Following.{reported_one}
use Rattle.link_laws.proofs.link.one_reported.Goals as goal

pub returns : goal.returns
returns c = reported_one
