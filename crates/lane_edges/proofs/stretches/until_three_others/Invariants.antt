use Rattle.std.proofs.Common.{◌≡◌, ℕ, ◌+◌, ◌-◌, ◌*◌, ◌%◌, ◌<◌, ◌≤◌}
use Rattle.tmds_word.specs.Bits.{bytes_bits}
use Rattle.lane_edges.specs.Passing.{IsOther}
use Rattle.lane_edges.proofs.stretches.until_three_others.Given as goal

abbrev pub invariant-loop-others : goal.invariant-loop-others
invariant-loop-others l = record {
  within : l.left ≤ l.bits;
  whole : l.left % 10 ≡ 0;
  few : l.others ≤ 3;
  many : 10 * l.others ≤ l.left;
  are : (k : ℕ) → k < l.others → IsOther (bytes_bits l.bytes) (l.place + (l.left - 10 - 10 * k));
}

abbrev pub decreases-loop-others : goal.decreases-loop-others
decreases-loop-others l = l.left + 3 - l.others
