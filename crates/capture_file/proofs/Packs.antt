-- Packed bits joined, and bytes that are packed bits.
use Rattle.std.proofs.Common.{◌≡◌, ◌≢◌, ℕ, suc, zero, ◌+◌, ◌-◌, ◌*◌, ◌/◌, ◌%◌, ◌^◌, ◌<◌, Bool, List, [], ◌∷◌, ◌++◌, length, take, get_or, refl, ap, ap₂, ◌∙◌, sym, arith, length-append, length-take-le, bit_and, set}
use Rattle.std.proofs.Math.Nat.{mod-eq_of_lt, div-eq_of_lt}
use Rattle.std.proofs.Math.Pow.{pow_mono}
use Rattle.std.proofs.Math.Seq.{take-length}
use Rattle.std.proofs.lemmas.Nat.{pow-add}
use Rattle.tmds_word.specs.Bits.{bits_of, bytes_of, bytes_bits, number}
use Rattle.tmds_word.proofs.Numbers.{number-append, number-take, number-bits_of, pow_positive}
use Rattle.tmds_word.proofs.Lists.{length-bits_of, length-bytes_bits}
use Rattle.std.proofs.lemmas.List.{set-get_or, get_or-set_same}
use Rattle.tmds_word.proofs.Rows.{number_of_bytes, mask_is}
use Rattle.capture_file.specs.Layout.{packed}
use Rattle.capture_file.specs.Captures.{AreBytes}
use Rattle.capture_file.proofs.Packing.{length-packed, bytes_whole, bytes_masked}

pub number_below : (xs : List Bool) → number xs < 2 ^ length xs
number_below xs =
    let h = pow_positive (length xs) in
    let e : number xs ≡ number xs % 2 ^ length xs = ap number (sym (take-length xs)) ∙ number-take (length xs) xs in
    let f : number xs % 2 ^ length xs < 2 ^ length xs = omega arith in
    omega arith

eight_more : (k : ℕ) → 2 ^ (8 * suc k) ≡ 256 * 2 ^ (8 * k)
eight_more k =
    let e : 8 * suc k ≡ 8 + 8 * k = omega arith in
    ap (λ m. 2 ^ m) e ∙ pow-add 2 8 (8 * k)

bytes_of-join : (k m n w : ℕ) → n < 2 ^ (8 * k) → bytes_of (k + m) (n + 2 ^ (8 * k) * w) ≡ bytes_of k n ++ bytes_of m w
unfolding bytes_of
bytes_of-join zero m n w lt = grind arith
bytes_of-join (suc k) m n w lt =
    let c = 2 ^ (8 * k) * w in
    let e : suc k + m ≡ suc (k + m) = omega arith in
    let d : 2 ^ (8 * suc k) * w ≡ 256 * c = rw (eight_more k) (omega arith) in
    grind (arith, eight_more, bytes_of-join k m)

-- bits after whole bytes
pub packed-append : (x u : List Bool) → length x % 8 ≡ 0 → packed (x ++ u) ≡ packed x ++ packed u
unfolding packed
packed-append x u whole =
    let k = (length x + 7) / 8 in
    let m = (length u + 7) / 8 in
    let e : length x ≡ 8 * k = omega arith in
    let f : (length (x ++ u) + 7) / 8 ≡ k + m = omega (arith, length-append x u) in
    grind (arith, number_below, number-append, bytes_of-join)

one_packed : (b : ℕ) → b < 256 → packed (bits_of 8 b) ≡ b ∷ []
unfolding packed bytes_of
one_packed b lt = grind (arith, length-bits_of, number-bits_of)

-- bytes are their bits packed
pub packed-bytes : (bs : List ℕ) → AreBytes bs → packed (bytes_bits bs) ≡ bs
unfolding bytes_bits packed bytes_of
packed-bytes [] h = refl
packed-bytes (b ∷ bs) h =
    let e : length (bits_of 8 b) % 8 ≡ 0 = omega (arith, length-bits_of 8 b) in
    packed-append (bits_of 8 b) (bytes_bits bs) e
    ∙ ap₂ (λ xs ys. xs ++ ys) (one_packed b (h 0)) (packed-bytes bs (λ i. h (suc i)))

pub number-packed : (k n : ℕ) → n < 2 ^ (8 * k) → number (bytes_bits (bytes_of k n)) ≡ n
unfolding bytes_of bytes_bits number
number-packed zero n lt = omega arith
number-packed (suc k) n lt = grind (arith, eight_more, number_of_bytes, number-packed k)

-- the first bits of bytes, packed
pub packed-first : (bs : List ℕ) (count : ℕ) → length bs ≡ (count + 7) / 8 → packed (take count (bytes_bits bs)) ≡ bytes_of ((count + 7) / 8) (number (bytes_bits bs) % 2 ^ count)
unfolding packed
packed-first bs count len =
    let e : length (take count (bytes_bits bs)) ≡ count = length-take-le count (bytes_bits bs) (omega (arith, length-bytes_bits bs)) in
    ap₂ (λ n m. bytes_of ((n + 7) / 8) m) e (number-take count (bytes_bits bs))

pub as_bytes : (u : List Bool) (count : ℕ) → length u ≡ count → packed u ≡ bytes_of ((count + 7) / 8) (number u)
unfolding packed
as_bytes u count is = ap (λ n. bytes_of ((n + 7) / 8) (number u)) is

-- packed bits have no others past them
pub packed_is_spared : (u : List Bool) (count : ℕ) → length u ≡ count → packed u ≡ packed (take count (bytes_bits (packed u)))
packed_is_spared u count is =
    let k = (count + 7) / 8 in
    let own : packed u ≡ bytes_of k (number u) = as_bytes u count is in
    grind (arith, number_below, pow_mono, number-packed, mod-eq_of_lt, packed-first, length-packed)

pub bytes_are : (bs : List ℕ) (count : ℕ) → AreBytes bs → length bs ≡ (count + 7) / 8 → bs ≡ bytes_of ((count + 7) / 8) (number (bytes_bits bs))
unfolding packed
bytes_are bs count h len =
    let e : (length (bytes_bits bs) + 7) / 8 ≡ (count + 7) / 8 = omega (arith, length-bytes_bits bs) in
    sym (packed-bytes bs h) ∙ ap (λ k. bytes_of k (number (bytes_bits bs))) e

-- whole bytes have no spare bits
pub spared_whole : (bs : List ℕ) (count : ℕ) → AreBytes bs → length bs ≡ (count + 7) / 8 → count % 8 ≡ 0 → bs ≡ packed (take count (bytes_bits bs))
spared_whole bs count h len none = bytes_are bs count h len ∙ bytes_whole (number (bytes_bits bs)) count none ∙ sym (packed-first bs count len)

masked_is : (bs : List ℕ) (count : ℕ) → AreBytes bs → length bs ≡ (count + 7) / 8 → count % 8 ≢ 0
    → set bs (length bs - 1) (bit_and (get_or bs (length bs - 1) 0) (1 * 2 ^ (count % 8) % 256 - 1)) ≡ packed (take count (bytes_bits bs))
masked_is bs count h len some = bytes_masked (number (bytes_bits bs)) count bs some (bytes_are bs count h len) ∙ sym (packed-first bs count len)

below_of : (b w : ℕ) → 0 < w → b / w ≡ 0 → b % w ≡ b
below_of b w some none = grind arith

none_of : (b w : ℕ) → 0 < w → b ≡ b % w → b / w ≡ 0
none_of b w some e =
    let h : b % w < w = omega arith in
    div-eq_of_lt {n = b} {m = w} (omega arith)

-- the last byte says whether there are spare bits
pub spared_last : (bs : List ℕ) (count : ℕ) → AreBytes bs → length bs ≡ (count + 7) / 8 → count % 8 ≢ 0
    → get_or bs (length bs - 1) 0 / 2 ^ (count % 8) ≡ 0 → bs ≡ packed (take count (bytes_bits bs))
spared_last bs count h len some none =
    let at = length bs - 1 in
    let b = get_or bs at 0 in
    let r = count % 8 in
    let few : r < 8 = omega arith in
    let same : bit_and b (1 * 2 ^ r % 256 - 1) ≡ b = mask_is b r few ∙ below_of b (2 ^ r) (pow_positive r) none in
    sym (set-get_or bs at 0) ∙ ap (λ a. set bs at a) (sym same) ∙ masked_is bs count h len some

pub last_spared : (bs : List ℕ) (count : ℕ) → AreBytes bs → length bs ≡ (count + 7) / 8 → count % 8 ≢ 0
    → bs ≡ packed (take count (bytes_bits bs)) → get_or bs (length bs - 1) 0 / 2 ^ (count % 8) ≡ 0
last_spared bs count h len some is =
    let at = length bs - 1 in
    let b = get_or bs at 0 in
    let r = count % 8 in
    let few : r < 8 = omega arith in
    let inside : at < length bs = omega arith in
    let own : b ≡ b % 2 ^ r =
    ap (λ xs. get_or xs at 0) (is ∙ sym (masked_is bs count h len some))
    ∙ get_or-set_same bs at (bit_and b (1 * 2 ^ r % 256 - 1)) 0 inside
    ∙ mask_is b r few in
    none_of b (2 ^ r) (pow_positive r) own
