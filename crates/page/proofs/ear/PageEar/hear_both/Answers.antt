use Rattle.std.proofs.Common.{inl, subst}
use Rattle.period_grammar.specs.Lending.{lent_event}
use Rattle.page.specs.Ears.{StopsAt, seen}
use Rattle.page.proofs.Stopping.{stopped_by_room}
use Rattle.page.proofs.ear.PageEar.hear_both.Goals as goal

pub returns-in-Ok-clause-stopped : goal.returns-in-Ok-clause-stopped
returns-in-Ok-clause-stopped g c =
    let k = g.K.Sink in
    stopped_by_room c.hear-kept.result (seen k.held k.faults c.args.self.now) (record { held = k.held c.hear.new.self.sink.now; write_faults = k.faults c.hear.new.self.sink.now; faults = c.hear.new.self.faults; room = c.hear-kept.new.self }) _ _ (lent_event c.args.event)
    c.twice.ensures.first c.twice.ensures.second c.hear-kept.ensures.err c.in-Ok.ensures.ok.2

pub returns-in-Err-clause-stopped : goal.returns-in-Err-clause-stopped
returns-in-Err-clause-stopped g c =
    let k = g.K.Sink in
    subst (λ t. StopsAt (seen k.held k.faults c.args.self.now) (record { held = k.held c.hear.new.self.sink.now; write_faults = k.faults c.hear.new.self.sink.now; faults = c.hear.new.self.faults; room = c.hear-kept.new.self }) t) c.twice.ensures.second
    (inl (c.in-Err.ensures.cause.failed, c.in-Err.ensures.err.2))
