use Rattle.std.proofs.Common.{◌≡◌, ◌-◌, ◌≤◌, drop, length}
use Rattle.tmds_word.specs.Bits.{bytes_bits, number}
use Rattle.lane_align.proofs.search.few_bytes.Given as goal

abbrev pub invariant-loop-i : goal.invariant-loop-i
invariant-loop-i l = record {
  after : l.at ≤ l.i;
  within : l.i ≤ length l.bytes;
  read : l.value ≡ number (bytes_bits (drop l.i l.bytes));
}

abbrev pub decreases-loop-i : goal.decreases-loop-i
decreases-loop-i l = l.i - l.at
