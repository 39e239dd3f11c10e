use Rattle.std.proofs.Common.{◌+◌, ◌-◌, length, slice_index}
use Rattle.lane_deskew.specs.Candidates.{AreReached, sum_of}
use Rattle.lane_deskew.proofs.reference.first_alignment.Given as goal

abbrev pub invariant-loop-edges : goal.invariant-loop-edges
invariant-loop-edges l = AreReached l.blue l.green l.red (slice_index l.edges 0) (slice_index l.edges 1) (slice_index l.edges 2)

abbrev pub decreases-loop-edges : goal.decreases-loop-edges
decreases-loop-edges l = length l.blue + length l.green + length l.red - sum_of l.edges
