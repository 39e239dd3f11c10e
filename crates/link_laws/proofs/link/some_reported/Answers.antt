use Rattle.link_sink.proofs.Decided.{reported_so_far}
use Rattle.link_laws.proofs.link.some_reported.Goals as goal

pub returns : goal.returns
returns c = reported_so_far
