use Rattle.link_sink.specs.Sinks.{grown_by}
use Rattle.track_sink.proofs.Following.{follows_grown}
use Rattle.track_sink.proofs.Handing.{taken_grows, stands_taken}
use Rattle.track_sink.proofs.follower.Follower.append.Goals as goal

pub returns-clause-stands : goal.returns-clause-stands
returns-clause-stands g c = λ fed reported settled.
    stands_taken g.met.W.Watch.is_watch c.args.self.now.tracker c.args.self.now.watch fed reported c.args.lanes.blue.now c.args.lanes.green.now c.args.lanes.red.now c.args.lanes.bits settled c.requires.lanes.blue c.requires.lanes.green c.requires.lanes.red _
    c.append.ensures.held c.append-2.ensures.held c.append-3.ensures.held c.append.ensures.fed c.append-2.ensures.fed c.append-3.ensures.fed

pub returns-clause-reported_at : goal.returns-clause-reported_at
returns-clause-reported_at g c = λ fed reported told settled was.
    let t = c.args.self.now.tracker in
    let lanes = c.args.lanes in
    let grows = taken_grows g.met.W.Watch.is_watch t c.args.self.now.watch fed reported lanes.blue.now lanes.green.now lanes.red.now lanes.bits settled c.requires.lanes.blue c.requires.lanes.green c.requires.lanes.red in
    follows_grown fed (grown_by fed lanes) t.start t.handed t.begun t.epochs t.aligned told grows settled.stands.carries.within was
