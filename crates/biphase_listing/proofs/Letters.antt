-- The digits of six bytes below 16, worked out at once: those of 10 and more are letters.
use Rattle.std.proofs.Common.{◌≡◌, ◌∙◌, ℕ, ◌+◌, ◌*◌, ◌/◌, ◌%◌, ◌^◌, ◌<◌, ◌==◌, Bool, true, slice_index, refl, ap₂, eqb-true, arith, bit_and}
use Rattle.std.proofs.lemmas.Nat.{and_block, and_mask}
use Rattle.hex.specs.Hex.{lower_digits}
use Rattle.tmds_word.proofs.Below.{passes_below, passes_at}
use Rattle.biphase_listing.specs.Fours.{six_bytes}

-- a digit's code, by whether it is a letter
unfoldable code_holds : ℕ → Bool
code_holds n = (n + 48 + 39 * ((n + 6) / 16)) == slice_index lower_digits n

all_codes : passes_below 16 code_holds ≡ true
unfolding passes_below code_holds
all_codes = refl

code_is : (n : ℕ) → n < 16 → n + 48 + 39 * ((n + 6) / 16) ≡ slice_index lower_digits n
unfolding code_holds
code_is n lt = eqb-true _ _ (passes_at 16 code_holds n all_codes lt)

-- a mask of a byte's lowest bit and of bits of the bytes above it
byte_mask : (y r : ℕ) → bit_and y (256 * r + 1) ≡ 256 * bit_and (y / 256) r + y % 2
byte_mask y r =
    let e : y ≡ y / 256 * 2 ^ 8 + y % 256 = omega arith in
    let m : 256 * r + 1 ≡ r * 2 ^ 8 + 1 = omega arith in
    ap₂ bit_and e m ∙ and_block 8 (y / 256) r (y % 256) 1 (omega arith) (omega arith) ∙ omega (arith, and_mask (y % 256) 1)

-- the letters of bytes, from those of the bytes above the lowest
one_more : (x r u m s n t : ℕ) → n < 16 → u ≡ 6 * r → m ≡ 256 * r + 1 → s ≡ 6 * m → bit_and ((x + u) / 16) r ≡ t → bit_and ((256 * x + n + s) / 16) m ≡ 256 * t + (n + 6) / 16
one_more x r u m s n t lt eu em es h = grind (arith, byte_mask)

unfoldable six_of : ℕ → ℕ → ℕ → ℕ → ℕ → ℕ → ℕ
six_of a b c d e f = 256 * (256 * (256 * (256 * (256 * f + e) + d) + c) + b) + a

unfoldable letter : ℕ → ℕ
letter n = (n + 6) / 16

letters_of : (a b c d e f : ℕ) → a < 16 → b < 16 → c < 16 → d < 16 → e < 16 → f < 16
    → bit_and ((six_of a b c d e f + 0x060606060606) / 16) 0x010101010101 ≡ six_of (letter a) (letter b) (letter c) (letter d) (letter e) (letter f)
unfolding six_of letter
letters_of a b c d e f la lb lc ld le lf =
    let x4 = 256 * f + e in
    let x3 = 256 * x4 + d in
    let x2 = 256 * x3 + c in
    let x1 = 256 * x2 + b in
    let h6 : bit_and ((f + 6) / 16) 1 ≡ (f + 6) / 16 = omega (arith, and_mask ((f + 6) / 16) 1) in
    let h5 = one_more f 0x01 0x06 0x0101 0x0606 e _ le refl refl refl h6 in
    let h4 = one_more x4 0x0101 0x0606 0x010101 0x060606 d _ ld refl refl refl h5 in
    let h3 = one_more x3 0x010101 0x060606 0x01010101 0x06060606 c _ lc refl refl refl h4 in
    let h2 = one_more x2 0x01010101 0x06060606 0x0101010101 0x0606060606 b _ lb refl refl refl h3 in
    one_more x1 0x0101010101 0x0606060606 0x010101010101 0x060606060606 a _ la refl refl refl h2

-- six digits
pub digits_are : (v fours letters : ℕ) → fours ≡ six_bytes (λ n. n) v → letters ≡ bit_and ((fours + 0x060606060606) / 16) 0x010101010101
    → fours + 0x303030303030 + 39 * letters ≡ six_bytes (slice_index lower_digits) v
unfolding six_of letter
digits_are v fours letters is found =
    let a = v % 16 in
    let b = v / 16 % 16 in
    let c = v / 256 % 16 in
    let d = v / 4096 % 16 in
    let e = v / 65536 % 16 in
    let f = v / 1048576 % 16 in
    let bytes : fours ≡ six_of a b c d e f = omega (arith, is) in
    grind (arith, letters_of, code_is)
