use Rattle.std.proofs.Common.{[]}
use Rattle.capture_commands.proofs.Trackings.{all_tracked}
use Rattle.capture_commands.proofs.tracking.follow_capture.Goals as goal

pub read_capture-requires-clause-fresh : goal.read_capture-requires-clause-fresh
read_capture-requires-clause-fresh g c = ([], c.requires.fresh, g.met.E.TrackEar.tracked_none c.args.ear.now)

pub returns-clause-heard : goal.returns-clause-heard
returns-clause-heard g c = all_tracked g.W.Watch.rule g.E.TrackEar.tracked (g.S.Source.left c.args.input.now) c.args.ear.now c.read_capture.new.ear c.read_capture.result c.read_capture.ensures.heard
