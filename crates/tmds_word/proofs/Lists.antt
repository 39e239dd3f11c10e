-- The lists of a number's lowest bits, and of the bits of bytes and of characters.
use Rattle.std.proofs.Common.{◌≡◌, ℕ, suc, zero, ◌+◌, ◌*◌, ◌/◌, ◌%◌, ◌^◌, ◌<◌, List, [], ◌∷◌, ◌++◌, length, refl, ap, ap₂, ◌∙◌, sym, arith, ◌==◌, append_assoc, append-nil, length-append}
use Rattle.std.proofs.Math.Nat.{pow-suc}
use Rattle.std.proofs.lemmas.Nat.{shr-shr, div-mul-add}
use Rattle.tmds_word.specs.Bits.{bits_of, word_bits, row_bits, bytes_bits}

pub length-bits_of : (k n : ℕ) → length (bits_of k n) ≡ k
unfolding bits_of
length-bits_of zero n = refl
length-bits_of (suc k) n = ap (λ m. suc m) (length-bits_of k (n / 2))

pub length-word_bits : (w : ℕ) → length (word_bits w) ≡ 10
unfolding word_bits
length-word_bits w = length-bits_of 10 w

pub length-row_bits : (ws : List ℕ) → length (row_bits ws) ≡ 10 * length ws
unfolding row_bits
length-row_bits [] = refl
length-row_bits (w ∷ ws) = omega (arith, length-row_bits ws, length-append (word_bits w) (row_bits ws), length-word_bits w)

pub row_bits-append : (vs ws : List ℕ) → row_bits (vs ++ ws) ≡ row_bits vs ++ row_bits ws
unfolding row_bits
row_bits-append [] ws = refl
row_bits-append (v ∷ vs) ws = ap (λ xs. word_bits v ++ xs) (row_bits-append vs ws) ∙ sym (append_assoc (word_bits v) (row_bits vs) (row_bits ws))

pub length-bytes_bits : (bs : List ℕ) → length (bytes_bits bs) ≡ 8 * length bs
unfolding bytes_bits
length-bytes_bits [] = refl
length-bytes_bits (b ∷ bs) = omega (arith, length-bytes_bits bs, length-append (bits_of 8 b) (bytes_bits bs), length-bits_of 8 b)

pub bytes_bits-append : (bs cs : List ℕ) → bytes_bits (bs ++ cs) ≡ bytes_bits bs ++ bytes_bits cs
unfolding bytes_bits
bytes_bits-append [] cs = refl
bytes_bits-append (b ∷ bs) cs = ap (λ xs. bits_of 8 b ++ xs) (bytes_bits-append bs cs) ∙ sym (append_assoc (bits_of 8 b) (bytes_bits bs) (bytes_bits cs))

pub bytes_bits-one : (b : ℕ) → bytes_bits (b ∷ []) ≡ bits_of 8 b
unfolding bytes_bits
bytes_bits-one b = append-nil (bits_of 8 b)

-- the lowest a + b bits: the lowest a, and b of the rest
pub bits_of-add : (a b n : ℕ) → bits_of (a + b) n ≡ bits_of a n ++ bits_of b (n / 2 ^ a)
unfolding bits_of
bits_of-add zero b n = grind arith
bits_of-add (suc a) b n =
    let e : suc a + b ≡ suc (a + b) = omega arith in
    let f : n / 2 ^ 1 ≡ n / 2 = omega arith in
    let g : 1 + a ≡ suc a = omega arith in
    let h : n / 2 / 2 ^ a ≡ n / 2 ^ suc a = ap (λ m. m / 2 ^ a) (sym f) ∙ shr-shr n 1 a ∙ ap (λ k. n / 2 ^ k) g in
    ap (λ k. bits_of k n) e ∙ ap (λ xs. (n % 2 == 1) ∷ xs) (bits_of-add a b (n / 2) ∙ ap (λ m. bits_of a (n / 2) ++ bits_of b m) h)

-- what stands above the lowest bits does not change them
pub bits_of-low : (k t w : ℕ) → bits_of k (t + 2 ^ k * w) ≡ bits_of k t
unfolding bits_of
bits_of-low zero t w = refl
bits_of-low (suc k) t w =
    let m = 2 ^ k * w in
    let two : 2 ^ suc k * w ≡ 2 * m = rw (pow-suc 2 k) (omega arith) in
    let even : (t + 2 * m) % 2 ≡ t % 2 = omega arith in
    let half : (t + 2 * m) / 2 ≡ t / 2 + m = omega arith in
    rw two (ap₂ (λ r q. (r == 1) ∷ bits_of k q) even half ∙ ap (λ xs. (t % 2 == 1) ∷ xs) (bits_of-low k (t / 2) w))

-- two numbers' bits, one after the other
pub bits_of-join : (h k t w : ℕ) → t < 2 ^ h → bits_of h t ++ bits_of k w ≡ bits_of (h + k) (t + 2 ^ h * w)
bits_of-join h k t w lt = grind (arith, div-mul-add, bits_of-add, bits_of-low)

-- a byte's bits and then the rest of a number's
pub bits_of-byte : (k n : ℕ) → bits_of (8 + k) n ≡ bits_of 8 (n % 256) ++ bits_of k (n / 256)
bits_of-byte k n =
    let e : n % 256 + 2 ^ 8 * (n / 256) ≡ n = omega arith in
    let f : n / 2 ^ 8 ≡ n / 256 = omega arith in
    bits_of-add 8 k n ∙ ap₂ (λ xs m. xs ++ bits_of k m) (ap (bits_of 8) (sym e) ∙ bits_of-low 8 (n % 256) (n / 256)) f
