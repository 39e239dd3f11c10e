-- The lowest bytes of a number, and how a packed row has them.
use Rattle.std.proofs.Common.{◌≡◌, ℕ, suc, zero, ◌+◌, ◌-◌, ◌*◌, ◌/◌, ◌%◌, ◌^◌, ◌<◌, ◌≤◌, List, ◌++◌, length, take, drop, get_or, min, refl, ap, ◌∙◌, sym, arith, length-drop, length-take-le}
use Rattle.std.proofs.lemmas.Nat.{shr-shr}
use Rattle.std.proofs.lemmas.Grind.{same_number_lists}
use Rattle.std.proofs.lemmas.List.{get_or-drop, get_or-take}
use Rattle.std.proofs.Math.ListN.{get_or-append}
use Rattle.tmds_word.specs.Bits.{bits_of, bytes_bits, bytes_of, number}
use Rattle.tmds_word.proofs.Lists.{bits_of-byte}
use Rattle.tmds_word.proofs.Rows.{AreBytes, byte_of_row, byte_within}

pub length-bytes_of : (k n : ℕ) → length (bytes_of k n) ≡ k
unfolding bytes_of
length-bytes_of zero n = refl
length-bytes_of (suc k) n = ap (λ m. suc m) (length-bytes_of k (n / 256))

pub get_or-bytes_of : (k n i : ℕ) → i < k → get_or (bytes_of k n) i 0 ≡ (n / 2 ^ (8 * i)) % 256
unfolding bytes_of
get_or-bytes_of zero n i lt = absurd (omega arith)
get_or-bytes_of (suc k) n zero lt = let e : n / 2 ^ (8 * 0) ≡ n = omega arith in ap (λ m. m % 256) (sym e)
get_or-bytes_of (suc k) n (suc i) lt =
    let e : n / 2 ^ 8 ≡ n / 256 = omega arith in
    let f : 8 + 8 * i ≡ 8 * suc i = omega arith in
    get_or-bytes_of k (n / 256) i (omega arith)
    ∙ ap (λ m. m % 256) (ap (λ m. m / 2 ^ (8 * i)) (sym e) ∙ shr-shr n 8 (8 * i) ∙ ap (λ j. n / 2 ^ j) f)

-- the bits of the lowest bytes are the lowest bits
pub bytes_of-bits : (k n : ℕ) → bytes_bits (bytes_of k n) ≡ bits_of (8 * k) n
unfolding bytes_of bytes_bits bits_of
bytes_of-bits zero n = refl
bytes_of-bits (suc k) n =
    let more : 8 + 8 * k ≡ 8 * suc k = omega arith in
    ap (λ xs. bits_of 8 (n % 256) ++ xs) (bytes_of-bits k (n / 256)) ∙ sym (bits_of-byte (8 * k) n) ∙ ap (λ j. bits_of j n) more

-- a list that has the right byte at each place
pub bytes_of-places : (bytes : List ℕ) (k n from : ℕ) → length bytes ≡ k
    → ((i : ℕ) → i < k → get_or bytes i 0 ≡ (n / 2 ^ (from + 8 * i)) % 256) → bytes ≡ bytes_of k (n / 2 ^ from)
bytes_of-places bytes k n from len h = grind (arith, same_number_lists, length-bytes_of, get_or-bytes_of, shr-shr)

byte_shifted : (r n : ℕ) → r < 8 → ((n % 256 + (n / 256 % 256) * 256) / 2 ^ r) % 256 ≡ (n / 2 ^ r) % 256
byte_shifted zero n h = omega arith
byte_shifted (suc zero) n h = omega arith
byte_shifted (suc (suc zero)) n h = omega arith
byte_shifted (suc (suc (suc zero))) n h = omega arith
byte_shifted (suc (suc (suc (suc zero)))) n h = omega arith
byte_shifted (suc (suc (suc (suc (suc zero))))) n h = omega arith
byte_shifted (suc (suc (suc (suc (suc (suc zero)))))) n h = omega arith
byte_shifted (suc (suc (suc (suc (suc (suc (suc zero))))))) n h = omega arith
byte_shifted (suc (suc (suc (suc (suc (suc (suc (suc r)))))))) n h = absurd (omega arith)

-- the eight bits from a place on, from the two bytes that they stand in
pub byte_of_two : (n p i low high : ℕ) → low ≡ (n / 2 ^ (8 * (p / 8 + i))) % 256 → high ≡ (n / 2 ^ (8 * (p / 8 + i + 1))) % 256
    → ((low + high * 256) / 2 ^ (p % 8)) % 256 ≡ (n / 2 ^ (p + 8 * i)) % 256
byte_of_two n p i low high e f =
    let at = 8 * (p / 8 + i) in
    let m = n / 2 ^ at in
    let few : p % 8 < 8 = omega arith in
    let next : 8 * (p / 8 + i + 1) ≡ at + 8 = omega arith in
    let whole : at + p % 8 ≡ p + 8 * i = omega arith in
    let second : high ≡ m / 256 % 256 = f ∙ ap (λ k. (n / 2 ^ k) % 256) next ∙ ap (λ k. k % 256) (sym (shr-shr n at 8)) in
    ap (λ a. ((a + high * 256) / 2 ^ (p % 8)) % 256) e
    ∙ ap (λ b. ((m % 256 + b * 256) / 2 ^ (p % 8)) % 256) second
    ∙ byte_shifted (p % 8) m few
    ∙ ap (λ k. k % 256) (shr-shr n at (p % 8) ∙ ap (λ k. n / 2 ^ k) whole)

-- the whole bytes from the one on in which a place stands
pub byte_of_piece : (whole : List ℕ) (h t from at k : ℕ) (piece : List ℕ) → AreBytes whole → t < 2 ^ h → h < 8
    → at ≡ min (from / 8) (length whole) → piece ≡ drop at whole → k < length piece
    → get_or piece k 0 ≡ (number (bytes_bits whole ++ bits_of h t) / 2 ^ (8 * (from / 8 + k))) % 256
byte_of_piece whole h t from at k piece are lt few place is below = grind (arith, length-drop, get_or-drop, byte_within, byte_of_row)

-- what a copy of the whole bytes from a byte's edge on has
pub whole_byte : (whole : List ℕ) (h t from at count k : ℕ) (piece rest : List ℕ) → AreBytes whole → t < 2 ^ h → h < 8 → from % 8 ≡ 0
    → at ≡ min (from / 8) (length whole) → piece ≡ drop at whole → count ≤ length piece → k < count
    → get_or (take count piece ++ rest) k 0 ≡ (number (bytes_bits whole ++ bits_of h t) / 2 ^ (from + 8 * k)) % 256
whole_byte whole h t from at count k piece rest are lt few edge place is room below =
    let bits : 8 * (from / 8 + k) ≡ from + 8 * k = omega arith in
    grind (arith, length-take-le, get_or-append, get_or-take, byte_of_piece)

-- and what a copy from another place on has
pub shifted_byte : (whole : List ℕ) (h t from at k : ℕ) (piece : List ℕ) → AreBytes whole → t < 2 ^ h → h < 8
    → at ≡ min (from / 8) (length whole) → piece ≡ drop at whole → k + 1 < length piece
    → ((get_or piece k 0 + get_or piece (k + 1) 0 * 256) / 2 ^ (from % 8)) % 256 ≡ (number (bytes_bits whole ++ bits_of h t) / 2 ^ (from + 8 * k)) % 256
shifted_byte whole h t from at k piece are lt few place is below =
    let n = number (bytes_bits whole ++ bits_of h t) in
    let next : 8 * (from / 8 + (k + 1)) ≡ 8 * (from / 8 + k + 1) = omega arith in
    byte_of_two n from k (get_or piece k 0) (get_or piece (k + 1) 0) (byte_of_piece whole h t from at k piece are lt few place is (omega arith))
    (byte_of_piece whole h t from at (k + 1) piece are lt few place is below ∙ ap (λ j. (n / 2 ^ j) % 256) next)
