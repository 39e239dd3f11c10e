use Rattle.std.proofs.Common.{◌≡◌, ◌-◌, ◌%◌, ◌<◌, ◌≤◌, ℕ}
use Rattle.tmds_word.specs.Bits.{bytes_bits}
use Rattle.lane_align.specs.Search.{IsOther}
use Rattle.lane_track.proofs.ahead.near_until.Given as goal

abbrev pub invariant-loop-p : goal.invariant-loop-p
invariant-loop-p l = record { after : l.from ≤ l.p; within : l.p ≤ l.until; whole : l.p < l.until → l.p % 10 ≡ l.from % 10; none : (q : ℕ) → IsOther (bytes_bits l.bytes) l.from l.p l.phase q → ⊥ }

abbrev pub decreases-loop-p : goal.decreases-loop-p
decreases-loop-p l = l.until - l.p
