-- The level of the last half cell of a list, and of a byte of half cells; every other bit of a number.
use Rattle.std.specs.Prelude.{ℕ, ◌+◌, ◌*◌, Bool, false, List, [], ◌∷◌}
use Rattle.std.specs.Int.{bit_at}
use Rattle.tmds_word.specs.Bits.{bits_of}

-- the last half cell, or the one before them
unfoldable pub last_of : Bool → List Bool → Bool
last_of before [] = before
last_of before (half ∷ halves) = last_of half halves

unfoldable pub level_after : ℕ → Bool
level_after byte = last_of false (bits_of 8 byte)

-- the byte of eight bits of a number, every other from a place on, the first one lowest
unfoldable pub eight_from : ℕ → ℕ → ℕ
eight_from n p =
    bit_at n p + 2 * bit_at n (p + 2) + 4 * bit_at n (p + 4) + 8 * bit_at n (p + 6)
    + 16 * bit_at n (p + 8) + 32 * bit_at n (p + 10) + 64 * bit_at n (p + 12) + 128 * bit_at n (p + 14)
