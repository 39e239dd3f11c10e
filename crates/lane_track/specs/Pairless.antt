-- What the test before the search sees of a step of eighty places.
use Rattle.std.specs.Prelude.{◌≡◌, ℕ, ◌+◌, ◌*◌, ◌/◌, ◌%◌, ◌^◌, ◌<◌, true, List}
use Rattle.tmds_word.specs.Bits.{bit, bytes_bits, number}
use Rattle.lane_align.specs.Search.{control_at}

-- in the eight bytes from a step's last place on no two control words follow one another from a place of the mask on
abbrev pub HasNoPair : List ℕ → ℕ → ℕ → Type 0
HasNoPair bytes mask at =
    (k : ℕ) → k < 10 → bit mask (k + 1) ≡ true → control_at (number (bytes_bits bytes) / 2 ^ (8 * (10 * at)) % 2 ^ 64) k ≡ true
    → control_at (number (bytes_bits bytes) / 2 ^ (8 * (10 * at)) % 2 ^ 64) (k + 10) ≡ true → ⊥

-- the lower halves of two numbers of 64 bits, as one
abbrev pub both_halves : ℕ → ℕ → ℕ
both_halves x y = x % 2 ^ 32 + 2 ^ 32 * (y % 2 ^ 32)
