use Rattle.std.proofs.Common.{◌<◌, ◌≤◌, ◌+◌, ◌*◌, ℕ}
use Rattle.tmds_word.specs.Bits.{bytes_bits}
use Rattle.lane_align.specs.Lanes.{HasControl}
use Rattle.lane_align.proofs.search.goes_on.Given as goal

abbrev pub invariant-loop-k : goal.invariant-loop-k
invariant-loop-k l = (k : ℕ) → 4 ≤ k → k < 4 * l.k → HasControl (bytes_bits l.bytes) (l.p + 10 * k)
