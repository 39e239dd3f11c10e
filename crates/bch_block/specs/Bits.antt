-- Bits, and the bits of bytes, as plain lists.
use Rattle.std.specs.Prelude.{ℕ, ◌+◌, Bool, true, false, List, [], ◌∷◌, ◌++◌, ◌==◌, if◌then◌else◌}
use Rattle.std.specs.Int.{bit_at}
use Rattle.std.proofs.Common.{suc, zero}

-- the sum of two bits, modulo 2
abbrev pub xor : Bool → Bool → Bool
xor a false = a
xor true true = false
xor false true = true

-- is bit i of a byte set? Bit 0 is the lowest
abbrev pub bit : ℕ → ℕ → Bool
bit byte i = bit_at byte i == 1

-- the bits of a byte, the lowest first
abbrev pub byte_bits : ℕ → List Bool
byte_bits byte = bit byte 0 ∷ bit byte 1 ∷ bit byte 2 ∷ bit byte 3 ∷ bit byte 4 ∷ bit byte 5 ∷ bit byte 6 ∷ bit byte 7 ∷ []

-- the bits of bytes, the first byte first
abbrev pub bits_of_bytes : List ℕ → List Bool
bits_of_bytes [] = []
bits_of_bytes (byte ∷ bytes) = byte_bits byte ++ bits_of_bytes bytes

-- the list with bit i turned over
abbrev pub flipped : List Bool → ℕ → List Bool
flipped [] i = []
flipped (b ∷ x) zero = xor b true ∷ x
flipped (b ∷ x) (suc i) = b ∷ flipped x i

-- at how many places two lists of one length differ
abbrev pub differences : List Bool → List Bool → ℕ
differences [] y = 0
differences (a ∷ x) [] = 0
differences (a ∷ x) (b ∷ y) = (if xor a b then 1 else 0) + differences x y
