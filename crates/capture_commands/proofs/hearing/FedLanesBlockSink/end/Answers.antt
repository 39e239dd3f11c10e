use Rattle.capture_commands.proofs.Hearings.{breaks_last, hears_whole}
use Rattle.capture_commands.proofs.hearing.FedLanesBlockSink.end.Goals as goal

pub returns-clause-heard : goal.returns-clause-heard
returns-clause-heard g c = λ fed first h.
    hears_whole g.H.Hears.grammar g.H.Hears.goes_on g.E.Ear.took g.met.E.Ear.took_both c.finish.result c.args.self.now.sink.now fed first c.args.ear.now c.finish.new.ear h (c.finish.ensures.reported fed h.0)

pub returns-clause-stopped : goal.returns-clause-stopped
returns-clause-stopped g c = λ fed first h.
    breaks_last g.H.Hears.grammar g.H.Hears.goes_on g.E.Ear.took g.E.Ear.broke g.met.E.Ear.took_both c.finish.result c.args.self.now.sink.now fed first c.args.ear.now c.finish.new.ear h (c.finish.ensures.stopped fed h.0)
