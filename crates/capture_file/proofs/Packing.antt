-- Packed bits: how a copy of a row's bytes and a mask give them, and what their chunks are.
use Rattle.std.proofs.Common.{◌≡◌, ◌≢◌, ℕ, ◌+◌, ◌-◌, ◌*◌, ◌/◌, ◌%◌, ◌^◌, ◌<◌, ◌≤◌, Bool, List, length, take, drop, min, get_or, ap, ap₂, ◌∙◌, sym, arith, length-drop, length-take-le, bit_and, set}
use Rattle.std.proofs.Math.Nat.{mod-eq_of_lt}
use Rattle.std.proofs.Math.Pow.{pow_mono, mod-mod-pow}
use Rattle.std.proofs.lemmas.Nat.{shr-shr, field_of, and_mask}
use Rattle.std.proofs.lemmas.Bool.{cases_lt}
use Rattle.std.proofs.lemmas.Grind.{same_number_lists, get_or-set_at}
use Rattle.std.proofs.lemmas.List.{get_or-drop, get_or-take, get_or-set_other, length-set, length-take}
use Rattle.tmds_word.specs.Bits.{bytes_of, number}
use Rattle.tmds_word.proofs.Numbers.{number-window, pow_positive}
use Rattle.tmds_word.proofs.Bytes.{length-bytes_of, get_or-bytes_of}
use Rattle.capture_file.specs.Layout.{packed, chunk}

pub length-part : (row : List Bool) (from count : ℕ) → from + count ≤ length row → length (take count (drop from row)) ≡ count
length-part row from count within = length-take-le count (drop from row) (omega (arith, length-drop from row))

-- the packed part of a row, from the row's number
pub packed-part : (row : List Bool) (from count : ℕ) → from + count ≤ length row
    → packed (take count (drop from row)) ≡ bytes_of ((count + 7) / 8) ((number row / 2 ^ from) % 2 ^ count)
unfolding packed
packed-part row from count within =
    ap₂ (λ n m. bytes_of ((n + 7) / 8) m) (length-part row from count within) (number-window from count row)

-- a byte below the cut, and the byte in which the cut is

pub byte_kept : (m count i : ℕ) → 8 * i + 8 ≤ count → (m % 2 ^ count / 2 ^ (8 * i)) % 256 ≡ (m / 2 ^ (8 * i)) % 256
byte_kept m count i room =
    let j = count - 8 * i - 8 in
    let all : count ≡ (j + 8) + 8 * i = omega arith in
    ap (λ k. (m % 2 ^ k / 2 ^ (8 * i)) % 256) all
    ∙ ap (λ n. n % 256) (field_of m (j + 8) (8 * i))
    ∙ mod-mod-pow (m / 2 ^ (8 * i)) j 8

byte_cut : (m count i r : ℕ) → r < 8 → 8 * i + r ≡ count → (m % 2 ^ count / 2 ^ (8 * i)) % 256 ≡ (m / 2 ^ (8 * i)) % 256 % 2 ^ r
byte_cut m count i r few whole =
    let n = m / 2 ^ (8 * i) in
    let all : count ≡ r + 8 * i = omega arith in
    let most : 2 ^ r ≤ 2 ^ 7 = pow_mono {i = r} {j = 7} (omega arith) in
    let some : 0 < 2 ^ r = pow_positive r in
    let small : n % 2 ^ r < 256 = omega arith in
    let eight : 8 - r + r ≡ 8 = omega arith in
    ap (λ k. (m % 2 ^ k / 2 ^ (8 * i)) % 256) all
    ∙ ap (λ k. k % 256) (field_of m r (8 * i))
    ∙ mod-eq_of_lt small
    ∙ sym (ap (λ k. n % 2 ^ k % 2 ^ r) (sym eight) ∙ mod-mod-pow n (8 - r) r)

mask_is : (b k : ℕ) → k < 8 → bit_and b (1 * 2 ^ k % 256 - 1) ≡ b % 2 ^ k
mask_is b k few =
    let most : 2 ^ k ≤ 2 ^ 7 = pow_mono {i = k} {j = 7} (omega arith) in
    let one : 1 * 2 ^ k ≡ 2 ^ k = omega arith in
    let fits : 2 ^ k < 256 = omega arith in
    ap (λ m. bit_and b (m - 1)) (ap (λ m. m % 256) one ∙ mod-eq_of_lt fits) ∙ and_mask b k

-- whole bytes need no mask
pub bytes_whole : (m count : ℕ) → count % 8 ≡ 0 → bytes_of ((count + 7) / 8) m ≡ bytes_of ((count + 7) / 8) (m % 2 ^ count)
bytes_whole m count none = grind (arith, same_number_lists, length-bytes_of, get_or-bytes_of, byte_kept)

-- the last byte is masked where it has spare bits
pub bytes_masked : (m count : ℕ) (bytes : List ℕ) → count % 8 ≢ 0 → bytes ≡ bytes_of ((count + 7) / 8) m
    → set bytes (length bytes - 1) (bit_and (get_or bytes (length bytes - 1) 0) (1 * 2 ^ (count % 8) % 256 - 1)) ≡ bytes_of ((count + 7) / 8) (m % 2 ^ count)
bytes_masked m count bytes some is = grind (arith, length-bytes_of, mask_is, same_number_lists, length-set, get_or-bytes_of, cases_lt, get_or-set_other, byte_kept, get_or-set_at, byte_cut)

-- what a lane's bits are from a chunk on
rest_of_lane : (row : List Bool) (from bits skip : ℕ) → skip ≤ bits → (number row / 2 ^ from) % 2 ^ bits / 2 ^ skip ≡ (number row / 2 ^ (from + skip)) % 2 ^ (bits - skip)
rest_of_lane row from bits skip le = grind (arith, field_of, shr-shr)

-- the lowest bytes of what is left, where no more is taken than a chunk has
kept_at : (m left count i : ℕ) → count ≡ min left 32768 → i < (count + 7) / 8 → (m % 2 ^ left / 2 ^ (8 * i)) % 256 ≡ (m % 2 ^ count / 2 ^ (8 * i)) % 256
kept_at m left count i is lt = grind (arith, cases_lt, byte_kept)

-- chunk j of a lane is its own bits packed
pub chunk-part : (row : List Bool) (from bits j count : ℕ) → from + bits ≤ length row → 32768 * j < bits → count ≡ min (bits - 32768 * j) 32768
    → chunk j (packed (take bits (drop from row))) ≡ packed (take count (drop (from + 32768 * j) row))
unfolding chunk
chunk-part row from bits j count within some is =
    let n = number row / 2 ^ from in
    let all = (bits + 7) / 8 in
    let k = (count + 7) / 8 in
    let skip = 32768 * j in
    let m = number row / 2 ^ (from + skip) in
    let lane = bytes_of all (n % 2 ^ bits) in
    let room : from + skip + count ≤ length row = omega arith in
    let cut = take 4096 (drop (4096 * j) lane) in
    let len : length cut ≡ k = omega (arith, length-take 4096 (drop (4096 * j) lane), length-drop (4096 * j) lane, length-bytes_of all (n % 2 ^ bits)) in
    let eight : 8 * (4096 * j) ≡ skip = omega arith in
    ap (λ xs. take 4096 (drop (4096 * j) xs)) (packed-part row from bits within)
    ∙ same_number_lists cut (bytes_of k (m % 2 ^ count)) (len ∙ sym (length-bytes_of k (m % 2 ^ count)))
    (λ i lt.
    let below : i < k = omega (arith, lt, len) in
    let inside : 4096 * j + i < all = omega arith in
    let chunk_end : i < 4096 = omega arith in
    let place : 8 * (4096 * j + i) ≡ skip + 8 * i = omega arith in
    get_or-take 4096 (drop (4096 * j) lane) i 0 chunk_end
    ∙ get_or-drop (4096 * j) lane i 0
    ∙ get_or-bytes_of all (n % 2 ^ bits) (4096 * j + i) inside
    ∙ ap (λ p. (n % 2 ^ bits / 2 ^ p) % 256) place
    ∙ ap (λ a. a % 256) (sym (shr-shr (n % 2 ^ bits) skip (8 * i)))
    ∙ ap (λ a. (a / 2 ^ (8 * i)) % 256) (rest_of_lane row from bits skip (omega arith))
    ∙ kept_at m (bits - skip) count i is below
    ∙ sym (get_or-bytes_of k (m % 2 ^ count) i below))
    ∙ sym (packed-part row (from + skip) count room)

pub length-packed : (bits : List Bool) → length (packed bits) ≡ (length bits + 7) / 8
unfolding packed
length-packed bits = length-bytes_of ((length bits + 7) / 8) (number bits)
