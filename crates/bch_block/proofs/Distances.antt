-- Lists that differ in few places, as turned-over bits.
use Rattle.std.proofs.Common.{◌≡◌, ℕ, suc, zero, ◌+◌, ◌<◌, Bool, true, false, List, [], ◌∷◌, length, refl, ap, arith}
use Rattle.bch_block.specs.Bits.{flipped, differences}
use Rattle.bch_block.proofs.Quotient.{xor_twice}

pub length-flipped : (x : List Bool) (i : ℕ) → length (flipped x i) ≡ length x
length-flipped [] i = refl
length-flipped (b ∷ x) zero = refl
length-flipped (b ∷ x) (suc i) = omega (arith, length-flipped x i)

pub flipped-flipped : (x : List Bool) (i : ℕ) → flipped (flipped x i) i ≡ x
flipped-flipped [] i = refl
flipped-flipped (b ∷ x) zero = ap (λ c. c ∷ x) (xor_twice b true)
flipped-flipped (b ∷ x) (suc i) = ap (λ y. b ∷ y) (flipped-flipped x i)

pub differences-self : (x : List Bool) → differences x x ≡ 0
differences-self [] = refl
differences-self (true ∷ x) = omega (arith, differences-self x)
differences-self (false ∷ x) = omega (arith, differences-self x)

pub differences-flipped : (x : List Bool) (i : ℕ) → i < length x → differences x (flipped x i) ≡ 1
differences-flipped [] i lt = absurd (omega arith)
differences-flipped (true ∷ x) zero lt = omega (arith, differences-self x)
differences-flipped (false ∷ x) zero lt = omega (arith, differences-self x)
differences-flipped (true ∷ x) (suc i) lt = omega (arith, differences-flipped x i (omega arith))
differences-flipped (false ∷ x) (suc i) lt = omega (arith, differences-flipped x i (omega arith))

pub same_without_differences : (x y : List Bool) → length y ≡ length x → differences x y ≡ 0 → y ≡ x
same_without_differences [] [] e h = refl
same_without_differences [] (b ∷ y) e h = absurd (omega arith)
same_without_differences (a ∷ x) [] e h = absurd (omega arith)
same_without_differences (true ∷ x) (true ∷ y) e h = ap (λ z. true ∷ z) (same_without_differences x y (omega arith) (omega arith))
same_without_differences (true ∷ x) (false ∷ y) e h = absurd (omega arith)
same_without_differences (false ∷ x) (true ∷ y) e h = absurd (omega arith)
same_without_differences (false ∷ x) (false ∷ y) e h = ap (λ z. false ∷ z) (same_without_differences x y (omega arith) (omega arith))

-- a place where two lists differ, with the number of bits after it; turned over, one difference less is left
pub record Difference (x y : List Bool) (n : ℕ) : Type 0 where
  pub place : ℕ
  pub after : ℕ
  pub inside : place + suc after ≡ length x
  pub fewer : differences (flipped x place) y ≡ n

later : (b : Bool) (x y : List Bool) (n : ℕ) → Difference x y n → Difference (b ∷ x) (b ∷ y) n
later true x y n d = record { place = suc d.place; after = d.after; inside = omega (arith, d.inside); fewer = omega (arith, d.fewer) }
later false x y n d = record { place = suc d.place; after = d.after; inside = omega (arith, d.inside); fewer = omega (arith, d.fewer) }

pub difference : (x y : List Bool) (n : ℕ) → length y ≡ length x → differences x y ≡ suc n → Difference x y n
difference [] y n e h = absurd (omega arith)
difference (a ∷ x) [] n e h = absurd (omega arith)
difference (true ∷ x) (true ∷ y) n e h = later true x y n (difference x y n (omega arith) (omega arith))
difference (true ∷ x) (false ∷ y) n e h = record { place = 0; after = length x; inside = omega arith; fewer = omega arith }
difference (false ∷ x) (true ∷ y) n e h = record { place = 0; after = length x; inside = omega arith; fewer = omega arith }
difference (false ∷ x) (false ∷ y) n e h = later false x y n (difference x y n (omega arith) (omega arith))
