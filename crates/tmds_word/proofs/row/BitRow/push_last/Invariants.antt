use Rattle.std.proofs.Common.{◌≡◌, ◌++◌, take}
use Rattle.tmds_word.specs.Bits.{bytes_bits}
use Rattle.tmds_word.proofs.row.BitRow.push_last.Given as goal

abbrev pub invariant-loop-byte : goal.invariant-loop-byte
invariant-loop-byte l = l.self ≡ l.initial.self ++ bytes_bits (take l.byte-index l.bytes)
