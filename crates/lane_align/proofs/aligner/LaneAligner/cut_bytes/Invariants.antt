use Rattle.std.proofs.Common.{length, take}
use Rattle.lane_align.proofs.Fives.{HasTaken}
use Rattle.lane_align.proofs.aligner.LaneAligner.cut_bytes.Given as goal

abbrev pub invariant-loop-i : goal.invariant-loop-i
invariant-loop-i l = record { taken : HasTaken l.fn.self l.self l.bytes (take l.at l.fn.row) l.row l.i l.at l.next (length l.fn.row) }
