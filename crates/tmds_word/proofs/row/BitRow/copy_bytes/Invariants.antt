use Rattle.std.proofs.Common.{ℕ, ◌≡◌, ◌<◌, ◌+◌, ◌*◌, ◌/◌, ◌%◌, ◌^◌, get_or}
use Rattle.tmds_word.specs.Bits.{number}
use Rattle.tmds_word.proofs.row.BitRow.copy_bytes.Given as goal

abbrev pub invariant-loop-i : goal.invariant-loop-i
invariant-loop-i l = (k : ℕ) → k < l.i → get_or l.into k 0 ≡ (number l.self / 2 ^ (l.from + 8 * k)) % 256
