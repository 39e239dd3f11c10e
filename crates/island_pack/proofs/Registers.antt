-- Bytes and wider numbers as lists of bits.
use Rattle.std.proofs.Common.{◌≡◌, ℕ, suc, zero, ◌+◌, ◌*◌, ◌/◌, ◌%◌, ◌^◌, ◌<◌, Bool, List, [], ◌∷◌, ◌++◌, length, take, get_or, refl, ap, ap₂, ◌∙◌, sym, arith, ◌==◌, length-append}
use Rattle.std.proofs.Math.Seq.{take-append_seam}
use Rattle.tmds_word.specs.Bits.{bits_of as number_bits}
use Rattle.tmds_word.proofs.Lists.{bits_of-byte}
use Rattle.bch_block.specs.Bits.{byte_bits, bits_of_bytes}
use Rattle.bch_block.specs.Block.{IsBlock}
use Rattle.bch_block.specs.Repair.{IsVerdict, Repairs}
use Rattle.bch_block.specs.declared.Verdict.{Verdict}
use Rattle.bch_block.specs.declared.Verdict.TheVariants.{Clean, Mended, Lost}
use Rattle.bch_block.proofs.Bytes.{length-bits_of_bytes, bits_of_bytes-append}
use Rattle.island_pack.specs.Packets.{BeginsWith}
use Rattle.island_pack.specs.Taken.{IsTaken, after}

-- a byte whose bits are known
pub bits_of_sum : (x0 x1 x2 x3 x4 x5 x6 x7 : ℕ) → x0 < 2 → x1 < 2 → x2 < 2 → x3 < 2 → x4 < 2 → x5 < 2 → x6 < 2 → x7 < 2
    → byte_bits (x0 + 2 * x1 + 4 * x2 + 8 * x3 + 16 * x4 + 32 * x5 + 64 * x6 + 128 * x7)
    ≡ (x0 == 1) ∷ (x1 == 1) ∷ (x2 == 1) ∷ (x3 == 1) ∷ (x4 == 1) ∷ (x5 == 1) ∷ (x6 == 1) ∷ (x7 == 1) ∷ []
bits_of_sum x0 x1 x2 x3 x4 x5 x6 x7 l0 l1 l2 l3 l4 l5 l6 l7 =
    let n = x0 + 2 * x1 + 4 * x2 + 8 * x3 + 16 * x4 + 32 * x5 + 64 * x6 + 128 * x7 in
    let e0 : n / 2 ^ 0 % 2 ≡ x0 = omega arith in
    let e1 : n / 2 ^ 1 % 2 ≡ x1 = omega arith in
    let e2 : n / 2 ^ 2 % 2 ≡ x2 = omega arith in
    let e3 : n / 2 ^ 3 % 2 ≡ x3 = omega arith in
    let e4 : n / 2 ^ 4 % 2 ≡ x4 = omega arith in
    let e5 : n / 2 ^ 5 % 2 ≡ x5 = omega arith in
    let e6 : n / 2 ^ 6 % 2 ≡ x6 = omega arith in
    let e7 : n / 2 ^ 7 % 2 ≡ x7 = omega arith in
    λ i. (e0 i == 1) ∷ (e1 i == 1) ∷ (e2 i == 1) ∷ (e3 i == 1) ∷ (e4 i == 1) ∷ (e5 i == 1) ∷ (e6 i == 1) ∷ (e7 i == 1) ∷ []

-- the eight lowest bits of a number
pub eight_bits : (n : ℕ) → number_bits 8 n ≡ byte_bits n
unfolding number_bits
eight_bits n =
    let e0 : n % 2 ≡ n / 2 ^ 0 % 2 = omega arith in
    let e1 : n / 2 % 2 ≡ n / 2 ^ 1 % 2 = omega arith in
    let e2 : n / 2 / 2 % 2 ≡ n / 2 ^ 2 % 2 = omega arith in
    let e3 : n / 2 / 2 / 2 % 2 ≡ n / 2 ^ 3 % 2 = omega arith in
    let e4 : n / 2 / 2 / 2 / 2 % 2 ≡ n / 2 ^ 4 % 2 = omega arith in
    let e5 : n / 2 / 2 / 2 / 2 / 2 % 2 ≡ n / 2 ^ 5 % 2 = omega arith in
    let e6 : n / 2 / 2 / 2 / 2 / 2 / 2 % 2 ≡ n / 2 ^ 6 % 2 = omega arith in
    let e7 : n / 2 / 2 / 2 / 2 / 2 / 2 / 2 % 2 ≡ n / 2 ^ 7 % 2 = omega arith in
    λ i. (e0 i == 1) ∷ (e1 i == 1) ∷ (e2 i == 1) ∷ (e3 i == 1) ∷ (e4 i == 1) ∷ (e5 i == 1) ∷ (e6 i == 1) ∷ (e7 i == 1) ∷ []

-- the number of bytes, the first byte lowest
pub number_of : List ℕ → ℕ
number_of [] = 0
number_of (b ∷ bs) = b + 256 * number_of bs

first_byte : (k b m : ℕ) → b < 256 → number_bits (8 + k) (b + 256 * m) ≡ byte_bits b ++ number_bits k m
first_byte k b m lt =
    let low : (b + 256 * m) % 256 ≡ b = omega arith in
    let high : (b + 256 * m) / 256 ≡ m = omega arith in
    bits_of-byte k (b + 256 * m) ∙ ap₂ (λ l h. number_bits 8 l ++ number_bits k h) low high ∙ ap (λ xs. xs ++ number_bits k m) (eight_bits b)

-- its bits are those of the bytes
pub bits_of_number : (bs : List ℕ) (k : ℕ) → k ≡ 8 * length bs → ((i : ℕ) → get_or bs i 0 < 256) → number_bits k (number_of bs) ≡ bits_of_bytes bs
unfolding number_of number_bits
bits_of_number [] k e f = ap (λ j. number_bits j 0) e
bits_of_number (b ∷ bs) k e f =
    let g : k ≡ 8 + 8 * length bs = omega arith in
    ap (λ j. number_bits j (b + 256 * number_of bs)) g
    ∙ first_byte (8 * length bs) b (number_of bs) (f 0)
    ∙ ap (λ xs. byte_bits b ++ xs) (bits_of_number bs (8 * length bs) refl (λ i. f (suc i)))

pub number_of_four : (a b c d n : ℕ) → n ≡ a + b * 256 + c * 65536 + d * 16777216 → n ≡ number_of (a ∷ b ∷ c ∷ d ∷ [])
unfolding number_of
number_of_four a b c d n e = omega arith

-- bytes with one byte more that makes a block
pub begins : (x : List Bool) (bytes : List ℕ) (p : ℕ) → x ≡ bits_of_bytes (bytes ++ p ∷ []) → IsBlock (bits_of_bytes (bytes ++ p ∷ [])) → BeginsWith x bytes
begins x bytes p e block = grind (arith, length-bits_of_bytes, length-append, bits_of_bytes-append, take-append_seam)

-- what is repaired
pub repaired : (old new : List ℕ) (v : Verdict) → Repairs old new v → bits_of_bytes new ≡ after (bits_of_bytes old) v
repaired old new Clean r = ap bits_of_bytes r
repaired old new (Mended i) r = r
repaired old new Lost r = ap bits_of_bytes r

-- a number of four bytes, byte by byte
pub byte_0 : (p q r s : ℕ) → p < 256 → (p + 256 * q + 65536 * r + 16777216 * s) % 256 ≡ p
byte_0 p q r s lt = omega arith

pub byte_1 : (p q r s : ℕ) → p < 256 → q < 256 → (p + 256 * q + 65536 * r + 16777216 * s) / 256 % 256 ≡ q
byte_1 p q r s lp lq = omega arith

pub byte_2 : (p q r s : ℕ) → p < 256 → q < 256 → r < 256 → (p + 256 * q + 65536 * r + 16777216 * s) / 65536 % 256 ≡ r
byte_2 p q r s lp lq lr = omega arith

pub byte_3 : (p q r s : ℕ) → p < 256 → q < 256 → r < 256 → s < 256 → (p + 256 * q + 65536 * r + 16777216 * s) / 16777216 % 256 ≡ s
byte_3 p q r s lp lq lr ls = omega arith

-- bytes of a known number that the bits begin with
pub taken : (x : List Bool) (bytes : List ℕ) (n : ℕ) (v : Verdict) → IsVerdict x v → length bytes ≡ n → bits_of_bytes bytes ≡ take (8 * n) (after x v) → IsTaken x bytes v
taken x bytes n v is long e = record { found = is; begins = e ∙ ap (λ m. take (8 * m) (after x v)) (sym long) }

pub fits_four : (a b c d : ℕ) → a < 256 → b < 256 → c < 256 → d < 256 → (i : ℕ) → get_or (a ∷ b ∷ c ∷ d ∷ []) i 0 < 256
fits_four a b c d h k l m p = grind arith

pub fits_eight : (a b c d e f g h : ℕ) → a < 256 → b < 256 → c < 256 → d < 256 → e < 256 → f < 256 → g < 256 → h < 256
    → (i : ℕ) → get_or (a ∷ b ∷ c ∷ d ∷ e ∷ f ∷ g ∷ h ∷ []) i 0 < 256
fits_eight a b c d e f g h la lb lc ld le lf lg lh zero = la
fits_eight a b c d e f g h la lb lc ld le lf lg lh (suc zero) = lb
fits_eight a b c d e f g h la lb lc ld le lf lg lh (suc (suc zero)) = lc
fits_eight a b c d e f g h la lb lc ld le lf lg lh (suc (suc (suc zero))) = ld
fits_eight a b c d e f g h la lb lc ld le lf lg lh (suc (suc (suc (suc i)))) = fits_four e f g h le lf lg lh i

pub number_of_eight : (a b c d e f g h n : ℕ)
    → n ≡ a + b * 256 + c * 65536 + d * 16777216 + e * 4294967296 + f * 1099511627776 + g * 281474976710656 + h * 72057594037927936
    → n ≡ number_of (a ∷ b ∷ c ∷ d ∷ e ∷ f ∷ g ∷ h ∷ [])
unfolding number_of
number_of_eight a b c d e f g h n is = omega arith
