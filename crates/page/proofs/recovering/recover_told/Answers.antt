use Rattle.std.proofs.Common.{◌∙◌, refl, sym, subst}
use Rattle.page.specs.Ears.{EarSeen, seen}
use Rattle.page.specs.Heard.{SaysWhole, ends_as, said}
use Rattle.page.specs.declared.ending.Ending.{Ending}
use Rattle.page.proofs.Endings.{judged_ends, unaligned_ends, unheard_ends}
use Rattle.page.proofs.Readings.{short_said, whole_as}
use Rattle.page.proofs.Told.{says_at_first}
use Rattle.page.proofs.recovering.recover_told.Goals as goal

pub read_capture-requires-clause-fresh : goal.read_capture-requires-clause-fresh
read_capture-requires-clause-fresh g c =
    let x = c.args.telling.now in (
      c.new-receiver.ensures.fed,
      (c.requires.count, c.requires.used),
      record { ear = refl; teller = refl; sink = refl },
      says_at_first g.H.Hears.grammar g.T.Teller.told g.met.T.Teller.told_none (said (seen g.K.Sink.held g.K.Sink.faults x.ear.now) x.teller.now),
    )

pub returns-in-Ok-clause-ear : goal.returns-in-Ok-clause-ear
returns-in-Ok-clause-ear g c = c.in-Ok.ensures.heard.heard.0.ear

pub returns-in-Ok-clause-teller : goal.returns-in-Ok-clause-teller
returns-in-Ok-clause-teller g c = c.in-Ok.ensures.heard.heard.0.teller

pub returns-in-Ok-clause-sink : goal.returns-in-Ok-clause-sink
returns-in-Ok-clause-sink g c = c.end.ensures.same ∙ c.in-Ok.ensures.heard.heard.0.sink

pub returns-in-Ok-2-clause-ear : goal.returns-in-Ok-2-clause-ear
returns-in-Ok-2-clause-ear g c = c.in-Ok.ensures.heard.heard.0.ear

pub returns-in-Ok-2-clause-teller : goal.returns-in-Ok-2-clause-teller
returns-in-Ok-2-clause-teller g c = c.in-Ok.ensures.heard.heard.0.teller

pub returns-in-Ok-2-clause-sink : goal.returns-in-Ok-2-clause-sink
returns-in-Ok-2-clause-sink g c = c.in-Ok.ensures.heard.heard.0.sink

pub returns-in-Ok-clause-ends : goal.returns-in-Ok-clause-ends
returns-in-Ok-clause-ends g c =
    let k = g.K.Sink in
    let left = g.S.Source.left in
    let reads = g.S.Source.faults in
    let was = c.args.telling.now in
    let mid = c.read_capture.new.ear in
    let input = c.read_capture.new.input in
    let first = said (seen k.held k.faults was.ear.now) was.teller.now in
    let between = said (seen k.held k.faults mid.ear.now) mid.teller.now in
    let ended : EarSeen = record { held = k.held c.end.new.self.sink.now; write_faults = k.faults c.end.new.self.sink.now; faults = c.end.new.self.faults; room = mid.ear.now.room } in
    let last = said ended mid.teller.now in
    let heard = whole_as _ (SaysWhole g.H.Hears.grammar g.T.Teller.told) (left c.args.input.now) c.in-Ok.outcome was mid first between c.in-Ok.ensures.heard (λ fed h. h.1) in
    subst (λ (e : Ending). ends_as g.H.Hears.grammar g.T.Teller.told (left c.args.input.now) (left input) (reads c.args.input.now) (reads input) first last e) (sym c.judged.ensures)
    (judged_ends g.H.Hears.grammar g.T.Teller.told (left c.args.input.now) (left input) (reads c.args.input.now) (reads input) c.in-Ok.outcome first between last c.end.result c.faults-faults.result heard
    c.if-outcome.true c.requires.faults (sym c.faults-faults.ensures) refl c.end.ensures.whole c.end.ensures.part c.end.ensures.cause.failed)

pub returns-in-Ok-2-clause-ends : goal.returns-in-Ok-2-clause-ends
returns-in-Ok-2-clause-ends g c =
    let k = g.K.Sink in
    let left = g.S.Source.left in
    let reads = g.S.Source.faults in
    let was = c.args.telling.now in
    let now = c.read_capture.new.ear in
    let input = c.read_capture.new.input in
    let first = said (seen k.held k.faults was.ear.now) was.teller.now in
    let last = said (seen k.held k.faults now.ear.now) now.teller.now in
    unaligned_ends g.H.Hears.grammar g.T.Teller.told (left c.args.input.now) (left input) (reads c.args.input.now) (reads input) c.in-Ok.outcome first last
    (whole_as _ (SaysWhole g.H.Hears.grammar g.T.Teller.told) (left c.args.input.now) c.in-Ok.outcome was now first last c.in-Ok.ensures.heard (λ fed h. h.1)) c.if-outcome.false

pub returns-clause-ends : goal.returns-clause-ends
returns-clause-ends g c =
    let k = g.K.Sink in
    let left = g.S.Source.left in
    let reads = g.S.Source.faults in
    let was = c.args.telling.now in
    let now = c.read_capture.new.ear in
    let input = c.read_capture.new.input in
    let first = said (seen k.held k.faults was.ear.now) was.teller.now in
    let last = said (seen k.held k.faults now.ear.now) now.teller.now in
    let error = c.in-Err.error in
    subst (λ (e : Ending). ends_as g.H.Hears.grammar g.T.Teller.told (left c.args.input.now) (left input) (reads c.args.input.now) (reads input) first last e) (sym c.unheard.ensures)
    (unheard_ends g.H.Hears.grammar g.T.Teller.told (left c.args.input.now) (left input) (reads c.args.input.now) (reads input) was.ear.now.failed now.ear.now.failed first last error
    (short_said g.H.Hears.grammar g.T.Teller.told k.held k.faults (left c.args.input.now) (left input) was now error c.in-Err.ensures.short).1 c.in-Err.ensures.caused)

pub returns-clause-ear : goal.returns-clause-ear
returns-clause-ear g c =
    (short_said g.H.Hears.grammar g.T.Teller.told g.K.Sink.held g.K.Sink.faults (g.S.Source.left c.args.input.now) (g.S.Source.left c.read_capture.new.input) c.args.telling.now c.read_capture.new.ear c.in-Err.error c.in-Err.ensures.short).0.ear

pub returns-clause-teller : goal.returns-clause-teller
returns-clause-teller g c =
    (short_said g.H.Hears.grammar g.T.Teller.told g.K.Sink.held g.K.Sink.faults (g.S.Source.left c.args.input.now) (g.S.Source.left c.read_capture.new.input) c.args.telling.now c.read_capture.new.ear c.in-Err.error c.in-Err.ensures.short).0.teller

pub returns-clause-sink : goal.returns-clause-sink
returns-clause-sink g c =
    (short_said g.H.Hears.grammar g.T.Teller.told g.K.Sink.held g.K.Sink.faults (g.S.Source.left c.args.input.now) (g.S.Source.left c.read_capture.new.input) c.args.telling.now c.read_capture.new.ear c.in-Err.error c.in-Err.ensures.short).0.sink
