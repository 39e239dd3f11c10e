use Rattle.std.proofs.Common.{◌-◌, ◌≤◌, ℕ, Bool, List}
use Rattle.lane_edges.specs.Finders.{HasScanned, HasNoEdge}
use Rattle.alignment_search.specs.Parts.{IsPartOf}
use Rattle.alignment_search.proofs.lane.next_edge.Given as goal

abbrev pub invariant-loop-edge : goal.invariant-loop-edge
invariant-loop-edge l = record {
  rises : l.initial.finder.next ≤ l.finder.next;
  known :
      (xs : List Bool) (lock : ℕ) → IsPartOf l.part l.base xs → HasScanned xs lock l.initial.finder → HasNoEdge xs l.from l.initial.finder.next
      → HasScanned xs lock l.finder × HasNoEdge xs l.from l.finder.next;
}

abbrev pub decreases-loop-edge : goal.decreases-loop-edge
decreases-loop-edge l = l.until - l.finder.next
