use Rattle.std.proofs.Common.{◌+◌, ◌∙◌, ap}
use Rattle.track_sink.proofs.Handing.{byte_is}
use Rattle.track_sink.proofs.tracker.Tracker.end.Goals as goal

pub returns-clause-aligned : goal.returns-clause-aligned
returns-clause-aligned g c = ap (λ n. c.args.self.now.aligned + n) (c.from.ensures ∙ byte_is c.in_ok-outcome.outcome.aligned)
