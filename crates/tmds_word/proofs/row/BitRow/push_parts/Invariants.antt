use Rattle.std.proofs.Common.{◌≡◌, ◌*◌, ◌++◌, take}
use Rattle.tmds_word.specs.Bits.{bytes_bits}
use Rattle.tmds_word.proofs.row.BitRow.push_parts.Given as goal

abbrev pub invariant-loop-i : goal.invariant-loop-i
invariant-loop-i l = l.self ≡ l.initial.self ++ bytes_bits (take (320 * l.i) l.bytes)
