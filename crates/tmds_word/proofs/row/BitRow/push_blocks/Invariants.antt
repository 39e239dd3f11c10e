use Rattle.std.proofs.Common.{◌≡◌, ◌*◌, ◌++◌, take}
use Rattle.tmds_word.specs.Bits.{row_bits}
use Rattle.tmds_word.proofs.row.BitRow.push_blocks.Given as goal

abbrev pub invariant-loop-i : goal.invariant-loop-i
invariant-loop-i l = l.self ≡ l.initial.self ++ row_bits (take (64 * l.i) l.words)
