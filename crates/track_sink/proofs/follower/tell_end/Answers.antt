use Rattle.std.proofs.Common.{sym, subst}
use Rattle.std.specs.Prelude.{OnErr}
use Rattle.track_sink.specs.TrackEvents.{end_events}
use Rattle.track_sink.specs.Trackers.{Stops}
use Rattle.track_sink.specs.declared.watch.Cause.{Cause}
use Rattle.track_sink.proofs.Failing.{stops_slip, stops_relock}
use Rattle.track_sink.proofs.follower.tell_end.Goals as goal

pub returns-in-Slip-clause-err : goal.returns-in-Slip-clause-err
returns-in-Slip-clause-err g c =
    let P : Cause → Type 0 = λ cause. OnErr c.slip.result (Stops g.E.TrackEar.tracked g.E.TrackEar.lost c.args.ear.now c.slip.new.self (end_events c.args.begun cause c.args.place)) in
    subst P (sym c.in-Slip.is)
    (stops_slip g.E.TrackEar.tracked g.E.TrackEar.lost g.met.E.TrackEar.tracked_none c.args.ear.now c.slip.new.self c.args.begun c.in-Slip.lane c.args.place c.slip.result c.if-begun.true c.slip.ensures.err)

pub returns-in-Refuted-clause-err : goal.returns-in-Refuted-clause-err
returns-in-Refuted-clause-err g c =
    let P : Cause → Type 0 = λ cause. OnErr c.relock.result (Stops g.E.TrackEar.tracked g.E.TrackEar.lost c.args.ear.now c.relock.new.self (end_events c.args.begun cause c.args.place)) in
    subst P (sym c.in-Refuted.is)
    (stops_relock g.E.TrackEar.tracked g.E.TrackEar.lost g.met.E.TrackEar.tracked_none c.args.ear.now c.relock.new.self c.args.begun c.args.place c.relock.result c.if-begun-2.true c.relock.ensures.err)
