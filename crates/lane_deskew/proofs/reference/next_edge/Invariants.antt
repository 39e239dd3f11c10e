use Rattle.std.proofs.Common.{ℕ, ◌<◌, ◌≤◌}
use Rattle.lane_align.specs.Lanes.{IsEdge}
use Rattle.lane_deskew.proofs.reference.next_edge.Given as goal

abbrev pub invariant-loop-e : goal.invariant-loop-e
invariant-loop-e l = (d : ℕ) → l.from ≤ d → d < l.e → IsEdge l.row d → ⊥
