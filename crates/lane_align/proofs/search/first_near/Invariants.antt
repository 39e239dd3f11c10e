use Rattle.std.proofs.Common.{◌≡◌, ◌<◌, ◌+◌, ◌-◌, ◌*◌, ℕ, true}
use Rattle.tmds_word.specs.Bits.{bit, bytes_bits}
use Rattle.lane_align.specs.Lanes.{HasControl}
use Rattle.lane_align.specs.Search.{IsOther}
use Rattle.lane_align.proofs.search.first_near.Given as goal

abbrev pub invariant-loop-left : goal.invariant-loop-left
invariant-loop-left l = record {
  all : (q : ℕ) → IsOther (bytes_bits l.bytes) l.from l.until l.phase q → bit l.left (q - l.from) ≡ true;
  fours : (i : ℕ) → bit l.left i ≡ true → (l.from + i < l.until) × ((k : ℕ) → k < 4 → HasControl (bytes_bits l.bytes) (l.from + i + 10 * k));
}

abbrev pub decreases-loop-left : goal.decreases-loop-left
decreases-loop-left l = l.left
