-- The line of a frame as three parts of eight bytes: the digits of values, of flags and of a block's start.
use Rattle.std.proofs.Common.{◌≡◌, ◌∙◌, ℕ, zero, suc, ◌+◌, ◌*◌, ◌/◌, ◌%◌, ◌<◌, Bool, true, false, List, [], ◌∷◌, ◌++◌, length, slice_index, get_or, refl, ap, ap₂, sym, nat_lt, ltb-true, arith}
use Rattle.std.specs.Prelude.{codes}
use borrow.Rule.Slice.PartMut.{put_mid}
use Rattle.std.proofs.lemmas.Fmt.{decimal_digit}
use Rattle.std.proofs.lemmas.Nat.{le_bytes_8}
use Rattle.hex.specs.Hex.{encode_with, lower_digits}
use Rattle.std.specs.Int.{w64, to_le_bytes}
use Rattle.tmds_word.proofs.Below.{passes_below, passes_at}
use Rattle.audio_packets.specs.declared.sample.Sample.{Sample}
use Rattle.audio_out.proofs.Joined.{eight}
use Rattle.listing_writer.specs.Texts.{field}
use Rattle.listing_writer.specs.ContentText.{digit_of, sample_words, value_digits}
use Rattle.biphase_listing.specs.FrameText.{last_words}
use Rattle.biphase_listing.specs.Fours.{six_bytes, turned}
use Rattle.biphase_listing.proofs.Fours.{turned_six}

one_digit : (n : ℕ) → n < 8 → field n ≡ 32 ∷ (48 + n) ∷ []
one_digit n lt = ap (λ (text : List ℕ). 32 ∷ text) (decimal_digit n (omega arith))

digit_below : (b : Bool) → digit_of b < 8
digit_below b = grind arith

-- the six digits of a value
abbrev pub two : ℕ → List ℕ
two byte = slice_index lower_digits (byte / 16) ∷ slice_index lower_digits (byte % 16) ∷ []

six_digits : (v : ℕ) → value_digits v ≡ two (v / 65536 % 256) ++ (two (v / 256 % 256) ++ two (v % 256))
unfolding value_digits encode_with
six_digits v = refl

abbrev line_with : List ℕ → List ℕ → List ℕ → List ℕ → List ℕ → List ℕ → List ℕ
line_with left right lf rf start flat = (((((codes "s " ++ left ++ codes " " ++ right) ++ lf) ++ rf) ++ start) ++ flat) ++ codes "\n"

words_are : (s : Sample) → sample_words s ++ codes "\n" ≡ line_with (value_digits s.left) (value_digits s.right) (field s.left_flags) (field s.right_flags) (field (digit_of s.start)) (field (digit_of s.flat))
unfolding sample_words
words_are s = refl

abbrev six : ℕ → List ℕ
six v = two (v / 65536 % 256) ++ (two (v / 256 % 256) ++ two (v % 256))

digits_joined : (s : Sample) → s.left_flags < 8 → s.right_flags < 8
    → line_with (six s.left) (six s.right) (32 ∷ (48 + s.left_flags) ∷ []) (32 ∷ (48 + s.right_flags) ∷ []) (32 ∷ (48 + digit_of s.start) ∷ []) (32 ∷ (48 + digit_of s.flat) ∷ [])
    ≡ sample_words s ++ codes "\n"
digits_joined s l r =
    (λ i. line_with (sym (six_digits s.left) i) (sym (six_digits s.right) i) (sym (one_digit s.left_flags l) i) (sym (one_digit s.right_flags r) i) (sym (one_digit (digit_of s.start) (digit_below s.start)) i) (sym (one_digit (digit_of s.flat) (digit_below s.flat)) i))
    ∙ sym (words_are s)

unfoldable code_fits : ℕ → Bool
code_fits n = nat_lt (slice_index lower_digits n) 256

all_fit : passes_below 16 code_fits ≡ true
unfolding passes_below code_fits
all_fit = refl

code_below : (n : ℕ) → n < 16 → slice_index lower_digits n < 256
unfolding code_fits
code_below n lt = ltb-true _ _ (passes_at 16 code_fits n all_fit lt)

pub six_below : (v : ℕ) → six_bytes (slice_index lower_digits) v < 281474976710656
six_below v =
    let below : (n : ℕ) → slice_index lower_digits (n % 16) < 256 = λ n. code_below (n % 16) (omega arith) in
    omega (arith, below v, below (v / 16), below (v / 256), below (v / 4096), below (v / 65536), below (v / 1048576))

-- the digits of a value, the highest first
abbrev code : ℕ → ℕ
code n = slice_index lower_digits (n % 16)

abbrev codes_of : ℕ → List ℕ
codes_of v = code (v / 1048576) ∷ code (v / 65536) ∷ code (v / 4096) ∷ code (v / 256) ∷ code (v / 16) ∷ code v ∷ []

-- the two digits of a byte
byte_codes : (n m : ℕ) → m ≡ n / 16 → code m ∷ code n ∷ [] ≡ two (n % 256)
byte_codes n m e =
    let high : m % 16 ≡ n % 256 / 16 = omega (arith, e) in
    let low : n % 16 ≡ n % 256 % 16 = omega arith in
    λ i. slice_index lower_digits (high i) ∷ slice_index lower_digits (low i) ∷ []

codes_are : (v : ℕ) → codes_of v ≡ value_digits v
codes_are v =
    (λ i. byte_codes (v / 65536) (v / 1048576) (omega arith) i ++ (byte_codes (v / 256) (v / 4096) (omega arith) i ++ byte_codes v (v / 16) refl i))
    ∙ sym (six_digits v)

digit_fits : (n : ℕ) → code n < 256
digit_fits n = code_below (n % 16) (omega arith)

pub second_is : (v x : ℕ) → x ≡ 0x2000000000000020 + 256 * six_bytes (slice_index lower_digits) (turned v) → to_le_bytes w64 x ≡ codes " " ++ value_digits v ++ codes " "
second_is v x is =
    le_bytes_8 (codes " " ++ codes_of v ++ codes " ") x refl fit (omega (arith, is, turned_six (slice_index lower_digits) v))
    ∙ ap (λ (ds : List ℕ). codes " " ++ ds ++ codes " ") (codes_are v)
  where
    fit : (i : ℕ) → get_or (codes " " ++ codes_of v ++ codes " ") i 0 < 256
    fit zero = omega arith
    fit (suc zero) = digit_fits (v / 1048576)
    fit (suc (suc zero)) = digit_fits (v / 65536)
    fit (suc (suc (suc zero))) = digit_fits (v / 4096)
    fit (suc (suc (suc (suc zero)))) = digit_fits (v / 256)
    fit (suc (suc (suc (suc (suc zero))))) = digit_fits (v / 16)
    fit (suc (suc (suc (suc (suc (suc zero)))))) = digit_fits v
    fit (suc (suc (suc (suc (suc (suc (suc zero))))))) = omega arith
    fit (suc (suc (suc (suc (suc (suc (suc (suc i)))))))) = omega arith

pub first_is : (v x : ℕ) → x ≡ 0x2073 + 65536 * six_bytes (slice_index lower_digits) (turned v) → to_le_bytes w64 x ≡ codes "s " ++ value_digits v
first_is v x is =
    le_bytes_8 (codes "s " ++ codes_of v) x refl fit (omega (arith, is, turned_six (slice_index lower_digits) v))
    ∙ ap (λ (ds : List ℕ). codes "s " ++ ds) (codes_are v)
  where
    fit : (i : ℕ) → get_or (codes "s " ++ codes_of v) i 0 < 256
    fit zero = omega arith
    fit (suc zero) = omega arith
    fit (suc (suc zero)) = digit_fits (v / 1048576)
    fit (suc (suc (suc zero))) = digit_fits (v / 65536)
    fit (suc (suc (suc (suc zero)))) = digit_fits (v / 4096)
    fit (suc (suc (suc (suc (suc zero))))) = digit_fits (v / 256)
    fit (suc (suc (suc (suc (suc (suc zero)))))) = digit_fits (v / 16)
    fit (suc (suc (suc (suc (suc (suc (suc zero))))))) = digit_fits v
    fit (suc (suc (suc (suc (suc (suc (suc (suc i)))))))) = omega arith

pub last_is : (l r x : ℕ) (start : Bool) → l < 8 → r < 8 → x ≡ 0x0a30200020302030 + l + 65536 * r + 4294967296 * (48 + digit_of start) → to_le_bytes w64 x ≡ last_words l r start
last_is l r x start ll lr is = grind (arith, le_bytes_8, digit_below)

pub length-first : (v : ℕ) → length (codes "s " ++ value_digits v) ≡ 8
length-first v = ap (λ (ds : List ℕ). length (codes "s " ++ ds)) (sym (codes_are v))

pub length-second : (v : ℕ) → length (codes " " ++ value_digits v ++ codes " ") ≡ 8
length-second v = ap (λ (ds : List ℕ). length (codes " " ++ ds ++ codes " ")) (sym (codes_are v))

-- three parts of eight bytes put one after another
abbrev pub zeros : List ℕ
zeros = 0 ∷ 0 ∷ 0 ∷ 0 ∷ 0 ∷ 0 ∷ 0 ∷ 0 ∷ 0 ∷ 0 ∷ 0 ∷ 0 ∷ 0 ∷ 0 ∷ 0 ∷ 0 ∷ []

pub length-two : (x y : List ℕ) → length x ≡ 8 → length y ≡ 8 → length (put_mid 8 8 (x ++ zeros) y) ≡ 24
length-two x y p q = ap₂ (λ (u v : List ℕ). length (put_mid 8 8 (u ++ zeros) v)) (eight x p) (eight y q)

pub three_put : (x y z : List ℕ) → length x ≡ 8 → length y ≡ 8 → length z ≡ 8 → put_mid 16 8 (put_mid 8 8 (x ++ zeros) y) z ≡ x ++ (y ++ z)
three_put x y z p q r =
    let e = eight x p in
    let f = eight y q in
    let g = eight z r in
    (λ i. put_mid 16 8 (put_mid 8 8 (e i ++ zeros) (f i)) (g i)) ∙ sym (λ i. e i ++ (f i ++ g i))

-- the line of a sample of two sides, of its three parts
pub line_is : (s : Sample) → s.left_flags < 8 → s.right_flags < 8 → s.flat ≡ false
    → (codes "s " ++ value_digits s.left) ++ ((codes " " ++ value_digits s.right ++ codes " ") ++ last_words s.left_flags s.right_flags s.start) ≡ sample_words s ++ codes "\n"
line_is s l r flat = grind (arith, six_digits, digits_joined)
