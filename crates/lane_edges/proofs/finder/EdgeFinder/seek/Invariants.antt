use Rattle.std.proofs.Common.{◌+◌, ◌-◌, ◌≤◌, ℕ, max, Bool, List, drop}
use Rattle.tmds_word.specs.Bits.{bytes_bits}
use Rattle.lane_track.specs.Scouts.{HoldsBits}
use Rattle.lane_edges.specs.Finders.{HasScanned, HasNoEdge}
use Rattle.lane_edges.proofs.finder.EdgeFinder.seek.Given as goal

abbrev pub invariant-characters : goal.invariant-characters
invariant-characters l = record {
  rises : l.initial.self.next ≤ l.self.next;
  near : l.self.next ≤ max l.initial.self.next (l.until + 9);
  none :
      (xs : List Bool) (lock count from : ℕ) → HoldsBits (drop l.skip (bytes_bits l.bytes)) xs l.base count → l.until + 9 ≤ l.base + count
      → HasScanned xs lock l.initial.self → HasNoEdge xs from l.initial.self.next → HasScanned xs lock l.self × HasNoEdge xs from l.self.next;
}

abbrev pub decreases-characters : goal.decreases-characters
decreases-characters l = l.until - l.self.next
