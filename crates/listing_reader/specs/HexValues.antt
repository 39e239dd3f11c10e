-- The values of hexadecimal digits, and the bytes that digits are, two a byte.
use Rattle.std.specs.Prelude.{◌≡◌, ℕ, ◌+◌, ◌*◌, ◌<◌, List, length, slice_index, Option, Some, None}
use Rattle.hex.specs.Hex.{hex_digit_value}

-- 0 for none
abbrev pub value_or : Option ℕ → ℕ
value_or (Some v) = v
value_or None = 0

-- the value of a digit, and 0 for any other byte
unfoldable pub value_of : ℕ → ℕ
value_of digit = value_or (hex_digit_value digit)

-- each byte is that of two digits, of which the first has the upper four bits
abbrev pub AreBytesOf : List ℕ → List ℕ → Type 0
AreBytesOf digits bytes = (k : ℕ) → k < length bytes → slice_index bytes k ≡ 16 * value_of (slice_index digits (2 * k)) + value_of (slice_index digits (2 * k + 1))
