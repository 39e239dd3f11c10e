use Rattle.std.proofs.Common.{refl, length}
use Rattle.track_sink.proofs.Shifting.{copied_after}
use Rattle.track_sink.proofs.held.put_after.Goals as goal

pub returns-then-few-eq0 : goal.returns-then-few-eq0
returns-then-few-eq0 c = copied_after c.args.into.now c.args.bytes.now c.copy_from_slice.new.self c.args.few (length c.args.bytes.now) c.if-few-eq0.true c.copy_from_slice.ensures.after refl
