use Rattle.capture_commands.proofs.Hearings.{all_heard, bad_heard, broken_heard, heard_none, read_heard, some_heard}
use Rattle.capture_commands.proofs.hearing.hear_capture.Goals as goal

pub read_capture-requires-clause-fresh : goal.read_capture-requires-clause-fresh
read_capture-requires-clause-fresh g c = heard_none g.H.Hears.grammar g.H.Hears.goes_on g.E.Ear.took c.args.sink.now c.args.ear.now (g.met.E.Ear.took_none c.args.ear.now) c.requires.fresh

pub returns-clause-heard : goal.returns-clause-heard
returns-clause-heard g c = all_heard g.H.Hears.grammar g.E.Ear.took (g.S.Source.left c.args.input.now) c.args.ear.now c.read_capture.new.ear c.read_capture.result c.read_capture.ensures.heard

pub returns-clause-some : goal.returns-clause-some
returns-clause-some g c =
    some_heard g.H.Hears.grammar g.E.Ear.took g.E.Ear.broke (g.S.Source.left c.args.input.now) (g.S.Source.left c.read_capture.new.input) c.args.ear.now c.read_capture.new.ear c.read_capture.result c.read_capture.ensures.short

pub returns-clause-bad : goal.returns-clause-bad
returns-clause-bad g c =
    bad_heard g.H.Hears.grammar g.E.Ear.took g.E.Ear.broke (g.S.Source.left c.args.input.now) (g.S.Source.left c.read_capture.new.input) c.args.ear.now c.read_capture.new.ear c.read_capture.result c.read_capture.ensures.short

pub returns-clause-read : goal.returns-clause-read
returns-clause-read g c =
    read_heard g.H.Hears.grammar g.E.Ear.took g.E.Ear.broke (g.S.Source.left c.args.input.now) (g.S.Source.left c.read_capture.new.input) (g.S.Source.faults c.args.input.now) (g.S.Source.faults c.read_capture.new.input) (g.E.Ear.faults c.args.ear.now) (g.E.Ear.faults c.read_capture.new.ear) c.args.ear.now c.read_capture.new.ear c.read_capture.result c.read_capture.ensures.short c.read_capture.ensures.caused

pub returns-clause-broken : goal.returns-clause-broken
returns-clause-broken g c =
    broken_heard g.H.Hears.grammar g.E.Ear.took g.E.Ear.broke (g.S.Source.left c.args.input.now) (g.S.Source.left c.read_capture.new.input) (g.S.Source.faults c.args.input.now) (g.S.Source.faults c.read_capture.new.input) (g.E.Ear.faults c.args.ear.now) (g.E.Ear.faults c.read_capture.new.ear) c.args.ear.now c.read_capture.new.ear c.read_capture.result c.read_capture.ensures.short c.read_capture.ensures.caused
