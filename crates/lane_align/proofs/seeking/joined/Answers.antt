use Rattle.std.proofs.Common.{arith}
use Rattle.lane_align.proofs.Keeping.{joined_written}
use Rattle.lane_align.proofs.seeking.joined.Goals as goal

pub returns : goal.returns
returns c =
    joined_written c.args.kept.now c.args.bytes.now _ c.copy_from_slice.new.self c.copy_from_slice-2.new.self c.min-first.result
    (omega arith) (omega (arith, c.min-first.ensures)) c.copy_from_slice.ensures.after c.copy_from_slice-2.ensures.after
