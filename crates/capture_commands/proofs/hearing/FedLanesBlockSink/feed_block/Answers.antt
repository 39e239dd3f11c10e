use Rattle.capture_commands.proofs.Hearings.{breaks_past, hears_more}
use Rattle.capture_commands.proofs.hearing.FedLanesBlockSink.feed_block.Goals as goal

pub returns-clause-heard : goal.returns-clause-heard
returns-clause-heard g c = λ fed first h.
    hears_more g.H.Hears.grammar g.H.Hears.goes_on g.E.Ear.took g.met.E.Ear.took_both c.feed_lanes.result c.args.self.now.sink.now c.feed_lanes.new.sink fed _ first c.args.ear.now c.feed_lanes.new.ear h (c.feed_lanes.ensures.fed fed h.0) (c.feed_lanes.ensures.reported fed h.0)

pub returns-clause-stopped : goal.returns-clause-stopped
returns-clause-stopped g c = λ fed first h.
    breaks_past g.H.Hears.grammar g.H.Hears.goes_on g.E.Ear.took g.E.Ear.broke g.met.E.Ear.took_both c.feed_lanes.result c.args.self.now.sink.now fed _ first c.args.ear.now c.feed_lanes.new.ear h (c.feed_lanes.ensures.stopped fed h.0)
