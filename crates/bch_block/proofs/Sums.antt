-- Remainders add, and a bit turned over adds a power of x.
use Rattle.std.proofs.Common.{◌≡◌, ℕ, suc, zero, ◌+◌, Bool, true, false, List, [], ◌∷◌, length, refl, ap, ◌∙◌, arith}
use Rattle.bch_block.specs.Bits.{xor, flipped}
use Rattle.bch_block.specs.Division.{Remainder, nothing, one, step, remainder_from, times_power, power}

abbrev pub plus : Remainder → Remainder → Remainder
plus r s = record { x7 = xor r.x7 s.x7; x6 = xor r.x6 s.x6; x5 = xor r.x5 s.x5; x4 = xor r.x4 s.x4; x3 = xor r.x3 s.x3; x2 = xor r.x2 s.x2; x1 = xor r.x1 s.x1; x0 = xor r.x0 s.x0 }

-- a sum of four bits in another order
xor_swap : (a b c d : Bool) → xor (xor a b) (xor c d) ≡ xor (xor a c) (xor b d)
xor_swap a b c d = grind arith

xor-false : (a : Bool) → xor false a ≡ a
xor-false a = grind arith

xor-self : (a : Bool) → xor a a ≡ false
xor-self a = grind arith

pub equal_bits : (a b : Bool) → xor a b ≡ false → a ≡ b
equal_bits a b h = grind arith

pub nothing-plus : (r : Remainder) → plus nothing r ≡ r
nothing-plus r = λ i. record { x7 = xor-false r.x7 i; x6 = xor-false r.x6 i; x5 = xor-false r.x5 i; x4 = xor-false r.x4 i; x3 = xor-false r.x3 i; x2 = xor-false r.x2 i; x1 = xor-false r.x1 i; x0 = xor-false r.x0 i }

pub plus-self : (r : Remainder) → plus r r ≡ nothing
plus-self r = λ i. record { x7 = xor-self r.x7 i; x6 = xor-self r.x6 i; x5 = xor-self r.x5 i; x4 = xor-self r.x4 i; x3 = xor-self r.x3 i; x2 = xor-self r.x2 i; x1 = xor-self r.x1 i; x0 = xor-self r.x0 i }

pub equal_remainders : (r s : Remainder) → plus r s ≡ nothing → r ≡ s
equal_remainders r s h =
    let ex7 = equal_bits r.x7 s.x7 (ap (λ (t : Remainder). t.x7) h) in
    grind (arith, equal_bits)

-- what is added before a list is multiplied by as many powers of x
pub remainder_from-plus : (x : List Bool) (r s : Remainder) → remainder_from (plus r s) x ≡ plus (remainder_from r x) (times_power s (length x))
remainder_from-plus [] r s = refl
remainder_from-plus (b ∷ x) r s = grind (arith, xor_swap, remainder_from-plus x)

step-flipped : (r : Remainder) (b : Bool) → step r (xor b true) ≡ plus (step r b) one
step-flipped r b = grind (arith, xor_swap)

-- k bits stand after bit i
pub remainder_from-flipped : (x : List Bool) (r : Remainder) (i k : ℕ) → i + suc k ≡ length x → remainder_from r (flipped x i) ≡ plus (remainder_from r x) (power k)
remainder_from-flipped [] r i k e = absurd (omega arith)
remainder_from-flipped (b ∷ x) r zero k e =
    let same : length x ≡ k = omega arith in
    ap (λ (t : Remainder). remainder_from t x) (step-flipped r b)
    ∙ remainder_from-plus x (step r b) one
    ∙ ap (λ n. plus (remainder_from (step r b) x) (power n)) same
remainder_from-flipped (b ∷ x) r (suc i) k e = remainder_from-flipped x (step r b) i k (omega arith)

-- is the number of ones odd?
abbrev pub odd : Remainder → Bool
odd r = xor r.x7 (xor r.x6 (xor r.x5 (xor r.x4 (xor r.x3 (xor r.x2 (xor r.x1 r.x0))))))

pub odd-plus : (r s : Remainder) → odd (plus r s) ≡ xor (odd r) (odd s)
odd-plus r s = grind (arith, xor_swap)
