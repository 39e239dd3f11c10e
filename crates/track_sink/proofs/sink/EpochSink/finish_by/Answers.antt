use Rattle.std.proofs.Common.{sym, subst}
use Rattle.track_sink.specs.Trackers.{HasReportedAt, IsSettled}
use Rattle.track_sink.proofs.sink.EpochSink.finish_by.Goals as goal

pub returns-clause-reported : goal.returns-clause-reported
returns-clause-reported g c = λ fed reported stands.
    c.finish.ensures.reported fed reported (subst (λ s. IsSettled g.W.Watch.rule g.W.Watch.looked g.W.Watch.passed s.tracker s.watch fed reported) (sym c.self.view_is) stands.settled)

pub returns-clause-reported_at : goal.returns-clause-reported_at
returns-clause-reported_at g c = λ fed told tells.
    c.finish.ensures.reported_at fed tells.events told (subst (λ s. IsSettled g.W.Watch.rule g.W.Watch.looked g.W.Watch.passed s.tracker s.watch fed tells.events) (sym c.self.view_is) tells.represents.settled)
    (subst (λ s. HasReportedAt g.W.Watch.rule s.tracker fed told) (sym c.self.view_is) tells.reported_are)

pub returns-clause-stopped : goal.returns-clause-stopped
returns-clause-stopped g c = λ fed reported stands.
    c.finish.ensures.stopped fed reported (subst (λ s. IsSettled g.W.Watch.rule g.W.Watch.looked g.W.Watch.passed s.tracker s.watch fed reported) (sym c.self.view_is) stands.settled)
