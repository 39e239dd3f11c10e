use Rattle.std.proofs.Common.{ℕ, ◌≡◌, ◌<◌, ◌+◌, ◌*◌, get_or}
use Rattle.listing_reader.specs.HexValues.{value_of}
use Rattle.listing_reader.proofs.digits.put_bytes.Given as goal

abbrev pub invariant-loop-i : goal.invariant-loop-i
invariant-loop-i l = (k : ℕ) → k < l.i → get_or l.into k 0 ≡ 16 * value_of (get_or l.digits (2 * k) 0) + value_of (get_or l.digits (2 * k + 1) 0)
