-- The last bytes of some as a number, and one more before them.
use Rattle.std.proofs.Common.{◌≡◌, ℕ, suc, zero, ◌+◌, ◌-◌, ◌*◌, ◌/◌, ◌%◌, ◌^◌, ◌<◌, ◌≤◌, List, [], ◌∷◌, length, drop, get_or, ap, ◌∙◌, sym, subst, arith, length-drop}
use Rattle.std.specs.Prelude.{bit_or}
use Rattle.std.proofs.lemmas.List.{drop_more, drop_all}
use Rattle.std.proofs.lemmas.Nat.{or_shifted, pow-add, shr-shr}
use Rattle.std.proofs.Math.Pow.{pow_mono}
use Rattle.tmds_word.specs.Bits.{bytes_bits, number}
use Rattle.tmds_word.proofs.Rows.{AreBytes, number_of_bytes, number_from}
use Rattle.lane_align.proofs.Feeding.{none_bytes}

drop_bytes : (i : ℕ) (bytes : List ℕ) → AreBytes bytes → AreBytes (drop i bytes)
drop_bytes zero bytes are = are
drop_bytes (suc i) [] are = λ k. omega arith
drop_bytes (suc i) (b ∷ bytes) are = drop_bytes i bytes (λ k. are (suc k))

-- so many bytes are a number of so many bits
below_bytes : (bytes : List ℕ) → AreBytes bytes → number (bytes_bits bytes) < 2 ^ (8 * length bytes)
below_bytes [] are = rw none_bytes (omega arith)
below_bytes (b ∷ bytes) are =
    let e : 8 * suc (length bytes) ≡ 8 + 8 * length bytes = omega arith in
    let p : 2 ^ (8 + 8 * length bytes) ≡ 256 * 2 ^ (8 * length bytes) = pow-add 2 8 (8 * length bytes) in
    let below = below_bytes bytes (λ k. are (suc k)) in
    let first = are 0 in
    subst (λ n. number (bytes_bits (b ∷ bytes)) < n) (sym (ap (λ k. 2 ^ k) e ∙ p))
    (omega (arith, number_of_bytes b bytes first))

few_below : (bytes : List ℕ) (n : ℕ) → AreBytes bytes → length bytes ≤ n → number (bytes_bits bytes) < 2 ^ (8 * n)
few_below bytes n are few = grind (arith, below_bytes, pow_mono)

pub none_read : (bytes : List ℕ) (i : ℕ) → length bytes ≤ i → 0 ≡ number (bytes_bits (drop i bytes))
none_read bytes i all = sym (ap (λ bs. number (bytes_bits bs)) (drop_all i bytes all) ∙ none_bytes)

-- one byte more, where there were fewer than seven
pub one_read : (bytes : List ℕ) (i b value : ℕ) → AreBytes bytes → i < length bytes → length bytes ≤ i + 7 → b ≡ get_or bytes i 0
    → value ≡ number (bytes_bits (drop (i + 1) bytes)) → bit_or (value * 256 % 18446744073709551616) b ≡ number (bytes_bits (drop i bytes))
one_read bytes i b value are within few is read =
    let rest = drop (i + 1) bytes in
    let long : length rest ≤ 6 = omega (arith, length-drop (i + 1) bytes) in
    let below : number (bytes_bits rest) < 2 ^ 48 = few_below rest 6 (drop_bytes (i + 1) bytes are) long in
    let small : b < 256 = let h = are i in omega arith in
    let whole : value * 256 % 18446744073709551616 ≡ value * 2 ^ 8 = omega arith in
    let first : drop i bytes ≡ b ∷ rest = drop_more bytes i 0 within ∙ ap (λ x. x ∷ rest) (sym is) in
    ap (λ v. bit_or v b) whole ∙ or_shifted value 8 b small
    ∙ (let e = number_of_bytes b rest small in omega arith)
    ∙ ap (λ bs. number (bytes_bits bs)) (sym first)

-- all of them
pub all_read : (bytes : List ℕ) (at value : ℕ) → AreBytes bytes → length bytes < at + 8 → value ≡ number (bytes_bits (drop at bytes))
    → value ≡ number (bytes_bits bytes) / 2 ^ (8 * at) % 18446744073709551616
all_read bytes at value are few read =
    let rest = drop at bytes in
    let below : number (bytes_bits rest) < 2 ^ 64 = few_below rest 8 (drop_bytes at bytes are) (omega (arith, length-drop at bytes)) in
    grind (arith, number_from)

-- fewer than eight, but not none, in the last eight
pub last_read : (bytes : List ℕ) (at n : ℕ) → AreBytes bytes → 8 ≤ length bytes → at < length bytes → length bytes < at + 8
    → n ≡ number (bytes_bits bytes) / 2 ^ (8 * (length bytes - 8)) % 18446744073709551616
    → n / 2 ^ (8 * (at + 8 - length bytes)) ≡ number (bytes_bits bytes) / 2 ^ (8 * at) % 18446744073709551616
last_read bytes at n are eight within few is =
    let k = length bytes - 8 in
    let s = 8 * (at + 8 - length bytes) in
    let all = number (bytes_bits bytes) in
    let below : number (bytes_bits (drop k bytes)) < 2 ^ 64 = few_below (drop k bytes) 8 (drop_bytes k bytes are) (omega (arith, length-drop k bytes)) in
    let from = number_from k bytes are in
    let place : 8 * k + s ≡ 8 * at = omega arith in
    let whole : n ≡ all / 2 ^ (8 * k) = omega (arith, is, from, below) in
    all_read bytes at (n / 2 ^ s) are few (ap (λ m. m / 2 ^ s) whole ∙ shr-shr all (8 * k) s ∙ ap (λ m. all / 2 ^ m) place ∙ number_from at bytes are)
