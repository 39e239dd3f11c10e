-- One bit of a byte and of bytes set, and a list's bits replaced one after another.
use Rattle.std.proofs.Common.{◌≡◌, ℕ, suc, zero, ◌+◌, ◌-◌, ◌*◌, ◌/◌, ◌%◌, ◌^◌, ◌<◌, ◌≤◌, Bool, true, false, ◌==◌, List, [], ◌∷◌, ◌++◌, length, take, drop, get_or, set, refl, ap, ap₂, ◌∙◌, sym, arith, bit_and, bit_or, append_assoc, length-append, length-take-le, drop-cons, append-nil, take-append-drop}
use Rattle.std.proofs.Math.Seq.{set-append_seam}
use Rattle.std.proofs.lemmas.Nat.{shr-shr}
use Rattle.std.proofs.lemmas.List.{take_all, take_more, set-append_left, set-append_right}
use Rattle.tmds_word.specs.Bits.{bits_of, bytes_bits, word_bits}
use Rattle.tmds_word.proofs.Below.{passes_below, passes_at}
use Rattle.tmds_word.proofs.Lists.{length-bits_of, length-word_bits}

-- whether two lists of bits are one, computed
unfoldable pub same_bits : List Bool → List Bool → Bool
same_bits [] [] = true
same_bits [] (y ∷ ys) = false
same_bits (x ∷ xs) [] = false
same_bits (true ∷ xs) (true ∷ ys) = same_bits xs ys
same_bits (true ∷ xs) (false ∷ ys) = false
same_bits (false ∷ xs) (true ∷ ys) = false
same_bits (false ∷ xs) (false ∷ ys) = same_bits xs ys

same_bits-true : (xs ys : List Bool) → same_bits xs ys ≡ true → xs ≡ ys
unfolding same_bits
same_bits-true [] [] h = refl
same_bits-true [] (y ∷ ys) h = cc
same_bits-true (x ∷ xs) [] h = cc
same_bits-true (true ∷ xs) (true ∷ ys) h = ap (λ zs. true ∷ zs) (same_bits-true xs ys h)
same_bits-true (true ∷ xs) (false ∷ ys) h = cc
same_bits-true (false ∷ xs) (true ∷ ys) h = cc
same_bits-true (false ∷ xs) (false ∷ ys) h = ap (λ zs. false ∷ zs) (same_bits-true xs ys h)

-- a byte with a bit set to 1, and to 0
sets_one : ℕ → ℕ → Bool
sets_one at b = same_bits (bits_of 8 (bit_or b (1 * 2 ^ at % 256))) (set (bits_of 8 b) at true)

sets_zero : ℕ → ℕ → Bool
sets_zero at b = same_bits (bits_of 8 (bit_and b (255 - 1 * 2 ^ at % 256))) (set (bits_of 8 b) at false)

each_one : passes_below 8 (λ at. passes_below 256 (sets_one at)) ≡ true
unfolding passes_below sets_one same_bits bits_of
each_one = refl

each_zero : passes_below 8 (λ at. passes_below 256 (sets_zero at)) ≡ true
unfolding passes_below sets_zero same_bits bits_of
each_zero = refl

pub one_set : (at b : ℕ) → at < 8 → b < 256 → bits_of 8 (bit_or b (1 * 2 ^ at % 256)) ≡ set (bits_of 8 b) at true
unfolding sets_one
one_set at b few byte =
    same_bits-true _ _ (passes_at 256 (sets_one at) b (passes_at 8 (λ at. passes_below 256 (sets_one at)) at each_one few) byte)

pub zero_set : (at b : ℕ) → at < 8 → b < 256 → bits_of 8 (bit_and b (255 - 1 * 2 ^ at % 256)) ≡ set (bits_of 8 b) at false
unfolding sets_zero
zero_set at b few byte =
    same_bits-true _ _ (passes_at 256 (sets_zero at) b (passes_at 8 (λ at. passes_below 256 (sets_zero at)) at each_zero few) byte)

-- a bit of bytes, set in its byte
pub byte_set : (bytes : List ℕ) (i b : ℕ) (value : Bool) → i < 8 * length bytes → bits_of 8 b ≡ set (bits_of 8 (get_or bytes (i / 8) 0)) (i % 8) value
    → bytes_bits (set bytes (i / 8) b) ≡ set (bytes_bits bytes) i value
unfolding bytes_bits
byte_set bytes i b value lt is =
    let parts : 8 * (i / 8) + i % 8 ≡ i = omega arith in
    let few : i % 8 < 8 = omega arith in
    at_place bytes (i / 8) (i % 8) b value (omega arith) few is ∙ ap (λ n. set (bytes_bits bytes) n value) parts
  where
    at_place : (bytes : List ℕ) (j r b : ℕ) (value : Bool) → j < length bytes → r < 8 → bits_of 8 b ≡ set (bits_of 8 (get_or bytes j 0)) r value
        → bytes_bits (set bytes j b) ≡ set (bytes_bits bytes) (8 * j + r) value
    at_place [] j r b value lt few is = absurd (omega arith)
    at_place (x ∷ bytes) zero r b value lt few is = grind (arith, set-append_left, length-bits_of)
    at_place (x ∷ bytes) (suc j) r b value lt few is =
        let e : 8 * suc j + r - 8 ≡ 8 * j + r = omega arith in
        ap (λ xs. bits_of 8 x ++ xs) (at_place bytes j r b value (omega arith) few is)
        ∙ ap (λ n. bits_of 8 x ++ set (bytes_bits bytes) n value) (sym e)
        ∙ sym (set-append_right (bits_of 8 x) (bytes_bits bytes) 8 (8 * suc j + r) value (length-bits_of 8 x) (omega arith))

-- the bits as far as one replaced, one bit more
pub one_more : (row bits now : List Bool) (place k : ℕ) (value : Bool) → place + length bits ≤ length row → k < length bits
    → now ≡ take place row ++ take k bits ++ drop (place + k) row → value ≡ get_or bits k false
    → set now (place + k) value ≡ take place row ++ take (k + 1) bits ++ drop (place + (k + 1)) row
one_more row bits now place k value room lt was is =
    let front = take place row ++ take k bits in
    let rest = drop (place + (k + 1)) row in
    let len : length front ≡ place + k =
    omega (arith, length-append (take place row) (take k bits), length-take-le place row (omega arith), length-take-le k bits (omega arith)) in
    let next : suc (place + k) ≡ place + (k + 1) = omega arith in
    let here : drop (place + k) row ≡ get_or row (place + k) false ∷ rest =
    drop-cons row (place + k) false (omega arith) ∙ ap (λ n. get_or row (place + k) false ∷ drop n row) next in
    ap₂ (λ xs n. set xs n value) (was ∙ ap (λ xs. front ++ xs) here) (sym len)
    ∙ set-append_seam front (get_or row (place + k) false) rest value
    ∙ sym (append_assoc front (value ∷ []) rest)
    ∙ ap (λ xs. xs ++ rest) (append_assoc (take place row) (take k bits) (value ∷ []))
    ∙ ap (λ xs. take place row ++ xs ++ rest) (ap (λ v. take k bits ++ v ∷ []) is ∙ sym (take_more bits k false lt))

-- no bit replaced yet
pub none_replaced : (row bits : List Bool) (place : ℕ) → row ≡ take place row ++ take 0 bits ++ drop (place + 0) row
none_replaced row bits place =
    let e : place + 0 ≡ place = omega arith in
    sym (ap (λ xs. xs ++ drop (place + 0) row) (append-nil (take place row)) ∙ ap (λ n. take place row ++ drop n row) e ∙ take-append-drop place row)

-- a bit of a number's lowest bits
pub bit_at : (n k w : ℕ) → k < n → get_or (bits_of n w) k false ≡ ((w / 2 ^ k) % 2 == 1)
unfolding bits_of
bit_at zero k w lt = absurd (omega arith)
bit_at (suc n) zero w lt = let e : w / 2 ^ 0 ≡ w = omega arith in ap (λ m. m % 2 == 1) (sym e)
bit_at (suc n) (suc k) w lt =
    let e : w / 2 ^ 1 ≡ w / 2 = omega arith in
    let f : 1 + k ≡ suc k = omega arith in
    bit_at n k (w / 2) (omega arith) ∙ ap (λ m. m % 2 == 1) (ap (λ m. m / 2 ^ k) (sym e) ∙ shr-shr w 1 k ∙ ap (λ j. w / 2 ^ j) f)

-- all ten
pub word_done : (row now : List Bool) (place k w : ℕ) → k ≡ 10 → now ≡ take place row ++ take k (word_bits w) ++ drop (place + k) row → now ≡ take place row ++ word_bits w ++ drop (place + 10) row
word_done row now place k w is was = grind (arith, take_all, length-word_bits)
