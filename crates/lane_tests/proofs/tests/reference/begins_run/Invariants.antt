use Rattle.std.proofs.Common.{◌<◌, ◌+◌, ◌*◌, ℕ}
use Rattle.lane_align.specs.Lanes.{HasControl}
use Rattle.lane_tests.proofs.tests.reference.begins_run.Given as goal

abbrev pub invariant-loop-k : goal.invariant-loop-k
invariant-loop-k l = (k : ℕ) → k < l.k → HasControl l.row (l.p + 10 * k)
