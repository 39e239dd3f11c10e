-- The bits at even places of a number, brought together in three steps.
use Rattle.std.proofs.Common.{◌≡◌, ℕ, zero, suc, ◌+◌, ◌-◌, ◌*◌, ◌/◌, ◌%◌, ◌^◌, ◌<◌, ◌≤◌, true, Bool, ◌==◌, refl, ap, ◌∙◌, arith, eqb-true, bit_and, bit_or}
use Rattle.std.specs.Int.{bit_at}
use Rattle.std.proofs.lemmas.Nat.{and_le_r, shr-shr}
use Rattle.std.proofs.lemmas.Nat.Bits.{bit_at_and, bit_at_or, bit_at-lt}
use Rattle.tmds_word.proofs.Below.{passes_below, passes_at}
use Rattle.audio_out.specs.Levels.{eight_from}

-- masks of blocks of ones and of zeros, of so many bits each
unfoldable masks : ℕ → ℕ → ℕ → Bool
masks m w i = bit_at m i == 1 - i / w % 2

abbrev IsMask : ℕ → ℕ → Type 0
IsMask m w = (i : ℕ) → i < 64 → bit_at m i ≡ 1 - i / w % 2

masks_of : (m w : ℕ) → passes_below 64 (masks m w) ≡ true → IsMask m w
unfolding masks
masks_of m w h i lt = eqb-true _ _ (passes_at 64 (masks m w) i h lt)

abbrev pub ONES : ℕ
ONES = 0x5555555555555555

abbrev pub TWOS : ℕ
TWOS = 0x3333333333333333

abbrev pub FOURS : ℕ
FOURS = 0x0f0f0f0f0f0f0f0f

abbrev pub EIGHTS : ℕ
EIGHTS = 0x00ff00ff00ff00ff

all_ones : passes_below 64 (masks ONES 1) ≡ true
unfolding passes_below masks
all_ones = refl

all_twos : passes_below 64 (masks TWOS 2) ≡ true
unfolding passes_below masks
all_twos = refl

all_fours : passes_below 64 (masks FOURS 4) ≡ true
unfolding passes_below masks
all_fours = refl

all_eights : passes_below 64 (masks EIGHTS 8) ≡ true
unfolding passes_below masks
all_eights = refl

-- the steps of the code
unfoldable pub ones : ℕ → ℕ
ones n = bit_and n ONES

unfoldable pub joined : ℕ → ℕ → ℕ → ℕ
joined x w m = bit_and (bit_or x (x / 2 ^ w)) m

unfoldable pub twos : ℕ → ℕ
twos n = joined (ones n) 1 TWOS

unfoldable pub fours : ℕ → ℕ
fours n = joined (twos n) 2 FOURS

unfoldable pub gathered : ℕ → ℕ
gathered n = joined (fours n) 4 EIGHTS

joined_low : (x w m i : ℕ) → bit_at m i ≡ 1 → bit_at x (w + i) ≡ 0 → bit_at (joined x w m) i ≡ bit_at x i
unfolding joined
joined_low x w m i one none = grind (arith, bit_at_and, bit_at_or, shr-shr, bit_at-lt)

joined_high : (x w m i : ℕ) → bit_at m i ≡ 1 → bit_at x i ≡ 0 → bit_at (joined x w m) i ≡ bit_at x (w + i)
unfolding joined
joined_high x w m i one none = grind (arith, bit_at_and, bit_at_or, shr-shr, bit_at-lt)

joined_none : (x w m i : ℕ) → bit_at m i ≡ 0 → bit_at (joined x w m) i ≡ 0
unfolding joined
joined_none x w m i none = omega (arith, bit_at_and (bit_or x (x / 2 ^ w)) m i, none)

one_at : (n i : ℕ) → i < 64 → i % 2 ≡ 0 → bit_at (ones n) i ≡ bit_at n i
unfolding ones
one_at n i lt e =
    let m = masks_of ONES 1 all_ones i lt in
    let w : i / 1 ≡ i = omega arith in
    omega (arith, bit_at_and n ONES i, m, w, e, bit_at-lt n i)

no_one : (n i : ℕ) → i < 64 → i % 2 ≡ 1 → bit_at (ones n) i ≡ 0
unfolding ones
no_one n i lt e =
    let m = masks_of ONES 1 all_ones i lt in
    let w : i / 1 ≡ i = omega arith in
    omega (arith, bit_at_and n ONES i, m, w, e)

no_two : (n i : ℕ) → i < 64 → i / 2 % 2 ≡ 1 → bit_at (twos n) i ≡ 0
unfolding twos
no_two n i lt e = joined_none (ones n) 1 TWOS i (omega (arith, masks_of TWOS 2 all_twos i lt, e))

no_four : (n i : ℕ) → i < 64 → i / 4 % 2 ≡ 1 → bit_at (fours n) i ≡ 0
unfolding fours
no_four n i lt e = joined_none (twos n) 2 FOURS i (omega (arith, masks_of FOURS 4 all_fours i lt, e))

two_at : (n a d : ℕ) → a < 16 → d < 2 → bit_at (twos n) (4 * a + d) ≡ bit_at n (4 * a + 2 * d)
unfolding twos
two_at n a zero la ld =
    let i = 4 * a + 0 in
    let m = masks_of TWOS 2 all_twos i (omega arith) in
    joined_low (ones n) 1 TWOS i (omega (arith, m)) (no_one n (1 + i) (omega arith) (omega arith))
    ∙ one_at n i (omega arith) (omega arith)
two_at n a (suc zero) la ld =
    let i = 4 * a + 1 in
    let m = masks_of TWOS 2 all_twos i (omega arith) in
    grind (arith, joined_high, no_one, one_at)
two_at n a (suc (suc d)) la ld = absurd (omega arith)

four_at : (n a d e : ℕ) → a < 8 → d < 2 → e < 2 → bit_at (fours n) (8 * a + 2 * d + e) ≡ bit_at (twos n) (8 * a + 4 * d + e)
unfolding fours
four_at n a zero e la ld le =
    let i = 8 * a + 2 * 0 + e in
    let m = masks_of FOURS 4 all_fours i (omega arith) in
    let same : i ≡ 8 * a + 4 * 0 + e = omega arith in
    joined_low (twos n) 2 FOURS i (omega (arith, m)) (no_two n (2 + i) (omega arith) (omega arith)) ∙ ap (bit_at (twos n)) same
four_at n a (suc zero) e la ld le =
    let i = 8 * a + 2 * 1 + e in
    let m = masks_of FOURS 4 all_fours i (omega arith) in
    let same : 2 + i ≡ 8 * a + 4 * 1 + e = omega arith in
    joined_high (twos n) 2 FOURS i (omega (arith, m)) (no_two n i (omega arith) (omega arith)) ∙ ap (bit_at (twos n)) same
four_at n a (suc (suc d)) e la ld le = absurd (omega arith)

eight_at : (n a d e : ℕ) → a < 4 → d < 2 → e < 4 → bit_at (gathered n) (16 * a + 4 * d + e) ≡ bit_at (fours n) (16 * a + 8 * d + e)
unfolding gathered
eight_at n a zero e la ld le =
    let i = 16 * a + 4 * 0 + e in
    let m = masks_of EIGHTS 8 all_eights i (omega arith) in
    let same : i ≡ 16 * a + 8 * 0 + e = omega arith in
    joined_low (fours n) 4 EIGHTS i (omega (arith, m)) (no_four n (4 + i) (omega arith) (omega arith)) ∙ ap (bit_at (fours n)) same
eight_at n a (suc zero) e la ld le =
    let i = 16 * a + 4 * 1 + e in
    let m = masks_of EIGHTS 8 all_eights i (omega arith) in
    let same : 4 + i ≡ 16 * a + 8 * 1 + e = omega arith in
    joined_high (fours n) 4 EIGHTS i (omega (arith, m)) (no_four n i (omega arith) (omega arith)) ∙ ap (bit_at (fours n)) same
eight_at n a (suc (suc d)) e la ld le = absurd (omega arith)

gathered_at : (n q r : ℕ) → q < 4 → r < 8 → bit_at (gathered n) (16 * q + r) ≡ bit_at n (16 * q + 2 * r)
gathered_at n q r lq lr =
    let d = r / 4 in
    let f = r / 2 % 2 in
    let g = r % 2 in
    let i0 : 16 * q + r ≡ 16 * q + 4 * d + (2 * f + g) = omega arith in
    let i1 : 16 * q + 8 * d + (2 * f + g) ≡ 8 * (2 * q + d) + 2 * f + g = omega arith in
    let i2 : 8 * (2 * q + d) + 4 * f + g ≡ 4 * (4 * q + 2 * d + f) + g = omega arith in
    let i3 : 4 * (4 * q + 2 * d + f) + 2 * g ≡ 16 * q + 2 * r = omega arith in
    ap (bit_at (gathered n)) i0
    ∙ eight_at n q d (2 * f + g) lq (omega arith) (omega arith)
    ∙ ap (bit_at (fours n)) i1
    ∙ four_at n (2 * q + d) f g (omega arith) (omega arith) (omega arith)
    ∙ ap (bit_at (twos n)) i2
    ∙ two_at n (4 * q + 2 * d + f) g (omega arith) (omega arith)
    ∙ ap (bit_at n) i3

eight_bits : (m : ℕ) → m % 256 ≡ m % 2 + 2 * (m / 2 % 2) + 4 * (m / 4 % 2) + 8 * (m / 8 % 2) + 16 * (m / 16 % 2) + 32 * (m / 32 % 2) + 64 * (m / 64 % 2) + 128 * (m / 128 % 2)
eight_bits m = omega arith

-- a byte of the second step: four bits, and none above them
four_bits : (n q r : ℕ) → q < 8 → r < 4 → bit_at (fours n) (8 * q + r) ≡ bit_at n (8 * q + 2 * r)
four_bits n q r lq lr =
    let d = r / 2 in
    let e = r % 2 in
    let i0 : 8 * q + r ≡ 8 * q + 2 * d + e = omega arith in
    let i1 : 8 * q + 4 * d + e ≡ 4 * (2 * q + d) + e = omega arith in
    grind (arith, four_at, two_at)

pub fours_are : (n q : ℕ) → q < 8 → fours n / 2 ^ (8 * q) % 256 ≡ bit_at n (8 * q) + 2 * bit_at n (8 * q + 2) + 4 * bit_at n (8 * q + 4) + 8 * bit_at n (8 * q + 6)
fours_are n q lt =
    let p = 8 * q in
    let m = fours n / 2 ^ p in
    let none : p + 0 ≡ p = omega arith in
    let at : (r : ℕ) → m / 2 ^ r % 2 ≡ bit_at (fours n) (p + r) = λ r. ap (λ k. k % 2) (shr-shr (fours n) p r) in
    let low : (r : ℕ) → r < 4 → m / 2 ^ r % 2 ≡ bit_at n (p + 2 * r) = λ r lr. at r ∙ four_bits n q r lt lr in
    let high : (r : ℕ) → 4 ≤ r → r < 8 → m / 2 ^ r % 2 ≡ 0 = λ r few lr. at r ∙ no_four n (p + r) (omega arith) (omega arith) in
    let one : m ≡ m / 2 ^ 0 = omega arith in
    let first : m % 2 ≡ bit_at n p = ap (λ k. k % 2) one ∙ low 0 (omega arith) ∙ ap (bit_at n) none in
    let h4 = high 4 (omega arith) (omega arith) in
    let h5 = high 5 (omega arith) (omega arith) in
    let h6 = high 6 (omega arith) (omega arith) in
    let h7 = high 7 (omega arith) (omega arith) in
    eight_bits m ∙ omega (arith, first, low 1 (omega arith), low 2 (omega arith), low 3 (omega arith), h4, h5, h6, h7)

pub fours_below : (n : ℕ) → fours n < 2 ^ 64
unfolding fours joined
fours_below n = omega (arith, and_le_r (bit_or (twos n) (twos n / 2 ^ 2)) FOURS)

-- a byte of what was brought together
pub gathered_is : (n q : ℕ) → q < 4 → gathered n / 2 ^ (16 * q) % 256 ≡ eight_from n (16 * q)
unfolding eight_from
gathered_is n q lt =
    let x = gathered n in
    let p = 16 * q in
    let m = x / 2 ^ p in
    let none : p + 0 ≡ p = omega arith in
    let at : (r : ℕ) → r < 8 → m / 2 ^ r % 2 ≡ bit_at n (p + 2 * r) = λ r lr. ap (λ k. k % 2) (shr-shr x p r) ∙ gathered_at n q r lt lr in
    let one : m ≡ m / 2 ^ 0 = omega arith in
    let first : m % 2 ≡ bit_at n p = ap (λ k. k % 2) one ∙ at 0 (omega arith) ∙ ap (bit_at n) none in
    eight_bits m ∙ omega (arith, first, at 1 (omega arith), at 2 (omega arith), at 3 (omega arith), at 4 (omega arith), at 5 (omega arith), at 6 (omega arith), at 7 (omega arith))
