-- The remainder of a list of bits by x^8 + x^7 + x^6 + 1, by long division. No contract of this crate's public functions
-- cites it: a block is defined by its quotient (`Block`). What is worked out of received packets is determined by it.
use Rattle.std.specs.Prelude.{ℕ, Bool, true, false, List, [], ◌∷◌}
use Rattle.std.proofs.Common.{suc, zero}
use Rattle.bch_block.specs.Bits.{xor, bit}

-- a polynomial of degree 7 at most, by its coefficients
pub record Remainder : Type 0 where
  pub x7 : Bool
  pub x6 : Bool
  pub x5 : Bool
  pub x4 : Bool
  pub x3 : Bool
  pub x2 : Bool
  pub x1 : Bool
  pub x0 : Bool

abbrev pub nothing : Remainder
nothing = record { x7 = false; x6 = false; x5 = false; x4 = false; x3 = false; x2 = false; x1 = false; x0 = false }

abbrev pub one : Remainder
one = record { x7 = false; x6 = false; x5 = false; x4 = false; x3 = false; x2 = false; x1 = false; x0 = true }

-- r * x + b, less the polynomial where x^8 arises
abbrev pub step : Remainder → Bool → Remainder
step r b = record { x7 = xor r.x6 r.x7; x6 = xor r.x5 r.x7; x5 = r.x4; x4 = r.x3; x3 = r.x2; x2 = r.x1; x1 = r.x0; x0 = xor b r.x7 }

abbrev pub remainder_from : Remainder → List Bool → Remainder
remainder_from r [] = r
remainder_from r (b ∷ x) = remainder_from (step r b) x

-- the remainder of a list
abbrev pub remainder : List Bool → Remainder
remainder x = remainder_from nothing x

-- r * x^k
abbrev pub times_power : Remainder → ℕ → Remainder
times_power r zero = r
times_power r (suc k) = times_power (step r false) k

-- x^k
abbrev pub power : ℕ → Remainder
power k = times_power one k

-- the remainder that a byte stands for, the highest power in its lowest bit
abbrev pub kept : ℕ → Remainder
kept byte = record { x7 = bit byte 0; x6 = bit byte 1; x5 = bit byte 2; x4 = bit byte 3; x3 = bit byte 4; x2 = bit byte 5; x1 = bit byte 6; x0 = bit byte 7 }
