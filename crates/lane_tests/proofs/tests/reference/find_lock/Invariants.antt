use Rattle.std.proofs.Common.{◌<◌, ℕ}
use Rattle.lane_align.specs.Lanes.{IsRun}
use Rattle.lane_tests.proofs.tests.reference.find_lock.Given as goal

abbrev pub invariant-loop-p : goal.invariant-loop-p
invariant-loop-p l = (q : ℕ) → q < l.p → IsRun l.row q → ⊥
