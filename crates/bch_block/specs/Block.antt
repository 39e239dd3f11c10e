-- The blocks of a BCH code: lists of bits that are multiples of x^8 + x^7 + x^6 + 1 over the field of two elements,
-- the first bit of the list as the highest power. HDMI 1.4, sections 5.2.3.4 and 5.2.3.5, protects the header and the
-- four subpackets of a data island by BCH blocks of 32 and 64 bits, with the generator polynomial
-- G(x) = 1 + x^6 + x^7 + x^8 (5.2.3.5). The order of the bits in the bytes (`bits_of`) is this project's own profile.
use Rattle.std.specs.Prelude.{◌≡◌, ℕ, ◌+◌, ◌<◌, Bool, false, List, [], ◌∷◌, length}
use Rattle.std.proofs.Common.{suc, zero}
use Rattle.bch_block.specs.Bits.{xor}

-- bit i, where places outside the list count as 0
abbrev pub at : List Bool → ℕ → Bool
at [] i = false
at (b ∷ x) zero = b
at (b ∷ x) (suc i) = at x i

-- bit i - k, where places outside the list count as 0
abbrev pub back : List Bool → ℕ → ℕ → Bool
back x zero i = at x i
back x (suc k) zero = false
back x (suc k) (suc i) = back x k i

-- x is q times the polynomial: x[i] = q[i] + q[i-1] + q[i-2] + q[i-8]
pub record IsMultiple (x q : List Bool) : Type 0 where
  pub shorter : length q + 8 ≡ length x
  pub bits : (i : ℕ) → i < length x → at x i ≡ xor (at q i) (xor (back q 1 i) (xor (back q 2 i) (back q 8 i)))

-- a block is the polynomial times some quotient
abbrev pub IsBlock : List Bool → Type 0
IsBlock x = (q : List Bool) × IsMultiple x q
