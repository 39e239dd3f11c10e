use Rattle.std.proofs.Common.{◌+◌, ◌-◌, ◌*◌, ◌<◌, ◌≤◌, ℕ}
use Rattle.tmds_word.specs.Bits.{bytes_bits}
use Rattle.lane_align.specs.Search.{IsOther}
use Rattle.lane_align.proofs.search.first_far.Given as goal

abbrev pub invariant-loop-p : goal.invariant-loop-p
invariant-loop-p l = record {
  after : l.from ≤ l.p;
  above : l.p ≤ 80 * l.at;
  below : l.p < l.until → 80 * l.at < l.p + 80;
  none : (q : ℕ) → IsOther (bytes_bits l.bytes) l.from l.p l.phase q → ⊥;
}

abbrev pub decreases-loop-p : goal.decreases-loop-p
decreases-loop-p l = l.until - l.p
