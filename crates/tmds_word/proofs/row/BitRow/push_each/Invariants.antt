use Rattle.std.proofs.Common.{◌≡◌, ◌++◌, take}
use Rattle.tmds_word.specs.Bits.{row_bits}
use Rattle.tmds_word.proofs.row.BitRow.push_each.Given as goal

abbrev pub invariant-loop-word : goal.invariant-loop-word
invariant-loop-word l = l.self ≡ l.initial.self ++ row_bits (take l.word-index l.words)
