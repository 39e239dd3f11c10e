use Rattle.std.proofs.Common.{ℕ, ◌≡◌, ◌<◌, ◌+◌, ◌*◌, ◌/◌, ◌%◌, ◌^◌, get_or}
use Rattle.tmds_word.proofs.row.shift_front.Given as goal

abbrev pub invariant-loop-i : goal.invariant-loop-i
invariant-loop-i l = (k : ℕ) → k < l.i → get_or l.into k 0 ≡ ((get_or l.bytes k 0 + get_or l.bytes (k + 1) 0 * 256) / 2 ^ l.shift) % 256
