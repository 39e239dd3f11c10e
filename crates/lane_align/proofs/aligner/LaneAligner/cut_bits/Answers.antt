use Rattle.std.proofs.Common.{◌≡◌, ℕ, ◌+◌, ◌/◌, ◌%◌, ◌++◌, arith, List, Bool, length, take, get_or, append_assoc}
use Rattle.tmds_word.specs.Bits.{bits_of, bytes_bits}
use Rattle.tmds_word.proofs.Rows.{take_bytes}
use Rattle.lane_align.proofs.aligner.LaneAligner.cut_bits.Goals as goal

-- whole bytes and then the lowest bits of one
parts : (xs : List Bool) (bytes : List ℕ) (bits : ℕ) → length bytes ≡ (bits + 7) / 8
    → (xs ++ bytes_bits (take (bits / 8) bytes)) ++ bits_of (bits % 8) (get_or bytes (bits / 8) 0) ≡ xs ++ take bits (bytes_bits bytes)
parts xs bytes bits len = grind (arith, append_assoc, take_bytes)

pub returns-clause-stands : goal.returns-clause-stands
returns-clause-stands c xs stands = grind (arith, parts)

pub returns-clause-words : goal.returns-clause-words
returns-clause-words c xs ws stands all = grind (arith, parts)
