use Rattle.std.proofs.Common.{◌≡◌, ◌%◌, ◌≤◌}
use Rattle.lane_edges.proofs.stretches.others_before.Given as goal

abbrev pub invariant-loop-left : goal.invariant-loop-left
invariant-loop-left l = record { within : l.left ≤ l.bits; whole : l.left % 10 ≡ 0 }

abbrev pub decreases-loop-left : goal.decreases-loop-left
decreases-loop-left l = l.left
