-- Groups of eight bytes after a tail of bits, and the characters of bytes that have four in each five.
use Rattle.std.proofs.Common.{◌≡◌, ℕ, suc, zero, ◌+◌, ◌*◌, ◌/◌, ◌%◌, ◌^◌, ◌<◌, ◌≤◌, Bool, List, [], ◌++◌, length, take, drop, get_or, refl, ap, ap₂, ◌∙◌, sym, arith, append_assoc, append-nil, drop-cons, drop-drop, length-append, length-take-le, length-drop, bit_or, bit_and}
use Rattle.std.specs.Int.{to_le_bytes}
use mir.Syntax.{w128}
use Rattle.std.proofs.Math.Nat.{mod-eq_of_lt}
use Rattle.std.proofs.Math.Pow.{pow_mono}
use Rattle.std.proofs.Math.Seq.{take-add}
use Rattle.std.proofs.lemmas.Nat.{or_shifted, pow-add, shr-shr, and_mask}
use Rattle.tmds_word.specs.Bits.{bits_of, bytes_bits, bytes_of, number}
use Rattle.tmds_word.specs.Words.{words_of, all_words}
use Rattle.tmds_word.proofs.Numbers.{bits_of-number, number-take, number-window}
use Rattle.tmds_word.proofs.Lists.{bits_of-join, bits_of-add, bytes_bits-append, length-bytes_bits}
use Rattle.tmds_word.proofs.Rows.{AreBytes, joined_below, four_bytes_are, number_from, number_of_bytes, take_bytes, no_bits}
use Rattle.tmds_word.proofs.Bytes.{bytes_of-bits}
use Rattle.tmds_word.proofs.Characters.{length-words_of}

-- the eight bytes from a place on as a number
pub eight_bytes_are : (bytes : List ℕ) (j n : ℕ) → AreBytes bytes → j + 8 ≤ length bytes
    → n ≡ get_or bytes j 0 + get_or bytes (j + 1) 0 * 256 + get_or bytes (j + 2) 0 * 65536 + get_or bytes (j + 3) 0 * 16777216
    + get_or bytes (j + 4) 0 * 4294967296 + get_or bytes (j + 5) 0 * 1099511627776 + get_or bytes (j + 6) 0 * 281474976710656 + get_or bytes (j + 7) 0 * 72057594037927936
    → n ≡ (number (bytes_bits bytes) / 2 ^ (8 * j)) % 18446744073709551616
eight_bytes_are bytes j n are room sum =
    let all = number (bytes_bits bytes) in
    let a = get_or bytes j 0 + get_or bytes (j + 1) 0 * 256 + get_or bytes (j + 2) 0 * 65536 + get_or bytes (j + 3) 0 * 16777216 in
    let b = get_or bytes (j + 4) 0 + get_or bytes (j + 5) 0 * 256 + get_or bytes (j + 6) 0 * 65536 + get_or bytes (j + 7) 0 * 16777216 in
    let low : a ≡ (all / 2 ^ (8 * j)) % 4294967296 = four_bytes_are bytes j a are (omega arith) refl in
    let five : j + 5 ≡ j + 4 + 1 = omega arith in
    let six : j + 6 ≡ j + 4 + 2 = omega arith in
    let seven : j + 7 ≡ j + 4 + 3 = omega arith in
    let high : b ≡ (all / 2 ^ (8 * (j + 4))) % 4294967296 =
    four_bytes_are bytes (j + 4) b are (omega arith) (λ i. get_or bytes (j + 4) 0 + get_or bytes (five i) 0 * 256 + get_or bytes (six i) 0 * 65536 + get_or bytes (seven i) 0 * 16777216) in
    let place : 8 * j + 32 ≡ 8 * (j + 4) = omega arith in
    let past : all / 2 ^ (8 * j) / 4294967296 ≡ all / 2 ^ (8 * (j + 4)) = shr-shr all (8 * j) 32 ∙ ap (λ k. all / 2 ^ k) place in
    omega (arith, sum, low, high, past)

pub eight_bits : (bytes : List ℕ) (j n : ℕ) → AreBytes bytes → j + 8 ≤ length bytes
    → n ≡ get_or bytes j 0 + get_or bytes (j + 1) 0 * 256 + get_or bytes (j + 2) 0 * 65536 + get_or bytes (j + 3) 0 * 16777216
    + get_or bytes (j + 4) 0 * 4294967296 + get_or bytes (j + 5) 0 * 1099511627776 + get_or bytes (j + 6) 0 * 281474976710656 + get_or bytes (j + 7) 0 * 72057594037927936
    → bits_of 64 n ≡ bytes_bits (take 8 (drop j bytes))
eight_bits bytes j n are room sum =
    let rest = drop j bytes in
    let xs = bytes_bits (take 8 rest) in
    let left : 8 ≤ length rest = omega (arith, length-drop j bytes) in
    let cut : take 64 (bytes_bits rest) ≡ xs = take_bytes rest 8 0 (omega arith) (omega arith) ∙ ap (λ ys. xs ++ ys) (no_bits (get_or rest 8 0)) ∙ append-nil xs in
    let size : length xs ≡ 64 = omega (arith, length-bytes_bits (take 8 rest), length-take-le 8 rest left) in
    let value : number xs ≡ n =
    ap number (sym cut) ∙ number-take 64 (bytes_bits rest) ∙ ap (λ m. m % 18446744073709551616) (sym (number_from j bytes are)) ∙ sym (eight_bytes_are bytes j n are room sum) in
    ap₂ (λ k m. bits_of k m) (sym size) (sym value) ∙ bits_of-number xs

-- the shift loses no bit, and sets none of the tail's
pub above_is : (t h w a b : ℕ) → t < 2 ^ h → w < 2 ^ 64 → h < 8 → a ≡ t → b ≡ w → bit_or (b * 2 ^ (h % 8) % 340282366920938463463374607431768211456) a ≡ t + 2 ^ h * w
above_is t h w a b low high few e f =
    let below : t + 2 ^ h * w < 2 ^ (h + 64) = joined_below h 64 t w low high in
    let most : 2 ^ (h + 64) ≤ 2 ^ 128 = pow_mono {i = h + 64} {j = 128} (omega arith) in
    let own : h % 8 ≡ h = mod-eq_of_lt few in
    let fits : w * 2 ^ h < 340282366920938463463374607431768211456 = omega arith in
    ap₂ (λ m k. bit_or (m * 2 ^ k % 340282366920938463463374607431768211456) a) f own
    ∙ ap (λ m. bit_or (w * 2 ^ h % 340282366920938463463374607431768211456) m) e
    ∙ ap (λ n. bit_or n t) (mod-eq_of_lt fits)
    ∙ or_shifted w h t low
    ∙ omega arith

pub eight_bytes : (n : ℕ) → take 8 (to_le_bytes w128 n) ≡ bytes_of 8 n
unfolding bytes_of
eight_bytes n = grind arith

-- eight bytes more
eight_more : (done : List ℕ) (h t n w : ℕ) → t < 2 ^ h → n ≡ t + 2 ^ h * w → bytes_bits (done ++ bytes_of 8 n) ++ bits_of h (n / 2 ^ 64) ≡ (bytes_bits done ++ bits_of h t) ++ bits_of 64 w
eight_more done h t n w lt e = grind (arith, bytes_bits-append, bytes_of-bits, append_assoc, bits_of-add, bits_of-join)

pub nothing_shifted : (h t : ℕ) → bytes_bits [] ++ bits_of h t ≡ bits_of h t ++ bytes_bits []
unfolding bytes_bits
nothing_shifted h t = sym (append-nil (bits_of h t))

-- what is left over of a number of fewer than h + 64 bits
pub left_above : (n h : ℕ) → n < 2 ^ (h + 64) → n / 2 ^ 64 < 2 ^ h
left_above n h lt =
    let p : 2 ^ (h + 64) ≡ 2 ^ h * 2 ^ 64 = pow-add 2 h 64 in
    omega arith

-- as many bytes more as are taken next
pub bytes_more : (start xs : List Bool) (bytes : List ℕ) (from n : ℕ) → xs ≡ start ++ bytes_bits (take from bytes)
    → xs ++ bytes_bits (take n (drop from bytes)) ≡ start ++ bytes_bits (take (from + n) bytes)
bytes_more start xs bytes from n was = grind (arith, append_assoc, bytes_bits-append, take-add)

-- how long a row is with bytes after it
pub length-bytes_more : (start xs : List Bool) (bytes : List ℕ) (n : ℕ) → xs ≡ start ++ bytes_bits (take n bytes) → n ≤ length bytes → length xs ≡ length start + 8 * n
length-bytes_more start xs bytes n e le =
    ap length e ∙ length-append start (bytes_bits (take n bytes)) ∙ omega (arith, length-bytes_bits (take n bytes), length-take-le n bytes le)

-- one group more
pub shifted_more : (start : List Bool) (bytes into now : List ℕ) (i h t n w : ℕ) → t < 2 ^ h → n ≡ t + 2 ^ h * w
    → bits_of 64 w ≡ bytes_bits (take 8 (drop (8 * i) bytes)) → take (8 * i + 8) now ≡ take (8 * i) into ++ bytes_of 8 n
    → bytes_bits (take (8 * i) into) ++ bits_of h t ≡ start ++ bytes_bits (take (8 * i) bytes)
    → bytes_bits (take (8 * (i + 1)) now) ++ bits_of h (n / 2 ^ 64) ≡ start ++ bytes_bits (take (8 * (i + 1)) bytes)
shifted_more start bytes into now i h t n w lt e own eight was =
    let a : 8 * (i + 1) ≡ 8 * i + 8 = omega arith in
    ap (λ k. bytes_bits (take k now) ++ bits_of h (n / 2 ^ 64)) a
    ∙ ap (λ bs. bytes_bits bs ++ bits_of h (n / 2 ^ 64)) eight
    ∙ eight_more (take (8 * i) into) h t n w lt e
    ∙ ap (λ xs. (bytes_bits (take (8 * i) into) ++ bits_of h t) ++ xs) own
    ∙ bytes_more start (bytes_bits (take (8 * i) into) ++ bits_of h t) bytes (8 * i) 8 was
    ∙ ap (λ k. start ++ bytes_bits (take k bytes)) (sym a)

-- shifted bytes after a row's own
pub row_shifted : (whole shifted bytes : List ℕ) (h t left : ℕ) (view : List Bool) → bytes_bits shifted ++ bits_of h left ≡ bits_of h t ++ bytes_bits bytes
    → bytes_bits whole ++ bits_of h t ≡ view → bytes_bits (whole ++ shifted) ++ bits_of h left ≡ view ++ bytes_bits bytes
row_shifted whole shifted bytes h t left view e f = grind (arith, bytes_bits-append, append_assoc)

-- Characters of bytes.

index_words : (n : ℕ) (xs : List Bool) (i : ℕ) → i < n → get_or (words_of n xs) i 0 ≡ number (take 10 (drop (10 * i) xs))
unfolding words_of
index_words zero xs i lt = absurd (omega arith)
index_words (suc n) xs zero lt = refl
index_words (suc n) xs (suc i) lt =
    let e : 10 + 10 * i ≡ 10 * suc i = omega arith in
    index_words n (drop 10 xs) i (omega arith) ∙ ap (λ ys. number (take 10 ys)) (drop-drop (10 * i) 10 xs ∙ ap (λ k. drop k xs) e)

-- ten bits that begin at an even place of a byte stand in two bytes
pair_holds : (s m : ℕ) → s < 4 → (m % 65536 / 2 ^ (2 * s)) % 1024 ≡ (m / 2 ^ (2 * s)) % 1024
pair_holds zero m h = omega arith
pair_holds (suc zero) m h = omega arith
pair_holds (suc (suc zero)) m h = omega arith
pair_holds (suc (suc (suc zero))) m h = omega arith
pair_holds (suc (suc (suc (suc s)))) m h = absurd (omega arith)

pub word_of_pair : (bytes : List ℕ) (i n : ℕ) → AreBytes bytes → 10 * i + 10 ≤ 8 * length bytes
    → n ≡ get_or bytes (i + i / 4) 0 + get_or bytes (i + i / 4 + 1) 0 * 256
    → bit_and (n / 2 ^ (2 * (i % 4))) 1023 ≡ get_or (all_words (bytes_bits bytes)) i 0
unfolding all_words
word_of_pair bytes i n are room sum =
    let at = i + i / 4 in
    let s = i % 4 in
    let xs = bytes_bits bytes in
    let few : s < 4 = omega arith in
    let within : at + 1 < length bytes = omega arith in
    let m = number (bytes_bits (drop at bytes)) in
    let rest = number (bytes_bits (drop (suc (suc at)) bytes)) in
    let next : at + 1 ≡ suc at = omega arith in
    let first : m ≡ get_or bytes at 0 + 256 * number (bytes_bits (drop (suc at) bytes)) =
    ap (λ bs. number (bytes_bits bs)) (drop-cons bytes at 0 (omega arith)) ∙ number_of_bytes (get_or bytes at 0) (drop (suc at) bytes) (are at) in
    let second : number (bytes_bits (drop (suc at) bytes)) ≡ get_or bytes (suc at) 0 + 256 * rest =
    ap (λ bs. number (bytes_bits bs)) (drop-cons bytes (suc at) 0 (omega arith)) ∙ number_of_bytes (get_or bytes (suc at) 0) (drop (suc (suc at)) bytes) (are (suc at)) in
    let pair : n ≡ m % 65536 = omega (arith, sum, first, second, are at, are (suc at), ap (λ k. get_or bytes k 0) next) in
    let place : 8 * at + 2 * s ≡ 10 * i = omega arith in
    let count : i < length xs / 10 = omega (arith, length-bytes_bits bytes) in
    and_mask (n / 2 ^ (2 * s)) 10
    ∙ ap (λ k. (k / 2 ^ (2 * s)) % 1024) pair
    ∙ pair_holds s m few
    ∙ ap (λ k. (k / 2 ^ (2 * s)) % 1024) (sym (number_from at bytes are))
    ∙ ap (λ k. k % 1024) (shr-shr (number xs) (8 * at) (2 * s) ∙ ap (λ k. number xs / 2 ^ k) place)
    ∙ sym (number-window (10 * i) 10 xs)
    ∙ sym (index_words (length xs / 10) xs i count)

-- how many characters bytes have
pub count_in_bytes : (bytes : List ℕ) → length (all_words (bytes_bits bytes)) ≡ 8 * length bytes / 10
count_in_bytes bytes = length-words_of (bytes_bits bytes) ∙ ap (λ n. n / 10) (length-bytes_bits bytes)
