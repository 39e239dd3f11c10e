-- The characters of a row of bits, and a row that has characters after it.
use Rattle.std.proofs.Common.{◌≡◌, ℕ, suc, zero, ◌*◌, ◌/◌, ◌%◌, ◌<◌, Bool, List, [], ◌∷◌, ◌++◌, length, take, drop, refl, ap, ◌∙◌, sym, arith, append_assoc, append-nil, length-append, length-drop, length-take-le, take-append-drop}
use Rattle.std.specs.Prelude.{All}
use Rattle.std.proofs.Math.Nat.{mod-eq_of_lt}
use Rattle.std.proofs.lemmas.List.{take-append-le, drop-append-le}
use Rattle.std.proofs.lemmas.List.Elements.{All-tail}
use Rattle.std.proofs.Math.Seq.{take-append_seam}
use Rattle.tmds_word.specs.Bits.{bits_of, word_bits, row_bits, bytes_bits, number}
use Rattle.tmds_word.specs.Words.{words_of, all_words}
use Rattle.tmds_word.proofs.Numbers.{bits_of-number, number-bits_of, number-take}
use Rattle.tmds_word.proofs.Lists.{length-word_bits, length-bytes_bits}

no_length : (xs : List Bool) → length xs ≡ 0 → xs ≡ []
no_length [] h = refl
no_length (x ∷ xs) h = absurd (omega arith)

word_of_ten : (xs : List Bool) → length xs ≡ 10 → word_bits (number xs) ≡ xs
unfolding word_bits
word_of_ten xs ten = ap (λ k. bits_of k (number xs)) (sym ten) ∙ bits_of-number xs

number-word_bits : (w : ℕ) → w < 1024 → number (word_bits w) ≡ w
unfolding word_bits
number-word_bits w below = number-bits_of 10 w ∙ mod-eq_of_lt below

-- a row's characters, one character more

first_words-one : (w : ℕ) (row : List Bool) → w < 1024 → words_of 1 (word_bits w ++ row) ≡ w ∷ []
unfolding words_of
first_words-one w row below =
    ap (λ k. number (take k (word_bits w ++ row)) ∷ []) (sym (length-word_bits w))
    ∙ ap (λ xs. number xs ∷ []) (take-append_seam (word_bits w) row)
    ∙ ap (λ n. n ∷ []) (number-word_bits w below)

first_words-push : (n w : ℕ) (row : List Bool) → length row ≡ 10 * n → w < 1024 → words_of (suc n) (row ++ word_bits w) ≡ words_of n row ++ w ∷ []
unfolding words_of
first_words-push zero w row len below =
    let none : row ≡ [] = no_length row (omega arith) in
    ap (λ xs. words_of 1 (xs ++ word_bits w)) none
    ∙ ap (λ xs. words_of 1 xs) (sym (append-nil (word_bits w)))
    ∙ first_words-one w [] below
first_words-push (suc n) w row len below =
    let first = take-append-le 10 row (word_bits w) (omega arith) in
    let later = drop-append-le 10 row (word_bits w) (omega arith) in
    (λ i. number (first i) ∷ words_of (suc n) (later i))
    ∙ ap (λ ws. number (take 10 row) ∷ ws) (first_words-push n w (drop 10 row) (omega (arith, length-drop 10 row)) below)

pub words_of-push : (row : List Bool) (w : ℕ) → length row % 10 ≡ 0 → w < 1024 → all_words (row ++ word_bits w) ≡ all_words row ++ w ∷ []
unfolding all_words
words_of-push row w whole below =
    let n = length row / 10 in
    let more : length (row ++ word_bits w) / 10 ≡ suc n = omega (arith, length-append row (word_bits w), length-word_bits w) in
    let len : length row ≡ 10 * n = omega arith in
    ap (λ k. words_of k (row ++ word_bits w)) more ∙ first_words-push n w row len below

-- and back

row_bits-first_words : (n : ℕ) (row : List Bool) → length row ≡ 10 * n → row_bits (words_of n row) ≡ row
unfolding words_of row_bits
row_bits-first_words zero row len = sym (no_length row (omega arith))
row_bits-first_words (suc n) row len =
    let first = word_of_ten (take 10 row) (length-take-le 10 row (omega arith)) in
    let later = row_bits-first_words n (drop 10 row) (omega (arith, length-drop 10 row)) in
    (λ i. first i ++ later i) ∙ take-append-drop 10 row

-- the bits of a row's characters are the row
pub row_bits-words_of : (row : List Bool) → length row % 10 ≡ 0 → row_bits (all_words row) ≡ row
unfolding all_words
row_bits-words_of row whole = row_bits-first_words (length row / 10) row (omega arith)

length-first_words : (n : ℕ) (row : List Bool) → length (words_of n row) ≡ n
unfolding words_of
length-first_words zero row = refl
length-first_words (suc n) row = ap (λ m. suc m) (length-first_words n (drop 10 row))

pub length-words_of : (row : List Bool) → length (all_words row) ≡ length row / 10
unfolding all_words
length-words_of row = length-first_words (length row / 10) row

-- many characters more
pub words_of-more : (row : List Bool) (ws : List ℕ) → length row % 10 ≡ 0 → All (λ w. w < 1024) ws → all_words (row ++ row_bits ws) ≡ all_words row ++ ws
unfolding row_bits
words_of-more row [] whole h = ap all_words (append-nil row) ∙ sym (append-nil (all_words row))
words_of-more row (w ∷ ws) whole h =
    let longer : length (row ++ word_bits w) % 10 ≡ 0 = omega (arith, length-append row (word_bits w), length-word_bits w) in
    ap all_words (sym (append_assoc row (word_bits w) (row_bits ws)))
    ∙ words_of-more (row ++ word_bits w) ws longer (All-tail (λ n. n < 1024) w ws h)
    ∙ ap (λ xs. xs ++ ws) (words_of-push row w whole (h 0 0 (omega arith)))
    ∙ append_assoc (all_words row) (w ∷ []) ws

-- a character is below 1024

first_words-below : (n : ℕ) (row : List Bool) → All (λ w. w < 1024) (words_of n row)
unfolding words_of
first_words-below zero row i d lt = absurd (omega arith)
first_words-below (suc n) row zero d lt = omega (arith, number-take 10 row)
first_words-below (suc n) row (suc i) d lt = first_words-below n (drop 10 row) i d (omega arith)

pub words_below : (row : List Bool) → All (λ w. w < 1024) (all_words row)
unfolding all_words
words_below row = first_words-below (length row / 10) row

-- and the characters of packed bytes
pub words_of-bytes : (row : List Bool) (bytes : List ℕ) → length row % 10 ≡ 0 → length bytes % 5 ≡ 0 → all_words (row ++ bytes_bits bytes) ≡ all_words row ++ all_words (bytes_bits bytes)
words_of-bytes row bytes whole fives =
    let xs = bytes_bits bytes in
    let tens : length xs % 10 ≡ 0 = omega (arith, length-bytes_bits bytes) in
    ap (λ ys. all_words (row ++ ys)) (sym (row_bits-words_of xs tens)) ∙ words_of-more row (all_words xs) whole (words_below xs)
