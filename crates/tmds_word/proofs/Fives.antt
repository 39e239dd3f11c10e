-- Groups of four characters, packed into five bytes each.
use Rattle.std.proofs.Common.{◌≡◌, ℕ, ◌+◌, ◌*◌, ◌/◌, ◌%◌, ◌^◌, ◌<◌, ◌≤◌, Bool, List, [], ◌∷◌, ◌++◌, length, take, drop, get_or, ap, ◌∙◌, sym, arith, append_assoc, append-nil, drop-cons, length-append, length-take-le, bit_or}
use Rattle.std.specs.Int.{to_le_bytes}
use mir.Syntax.{w64}
use Rattle.std.proofs.Math.Nat.{mod-eq_of_lt}
use Rattle.std.proofs.Math.Pow.{pow_mono}
use Rattle.std.proofs.Math.Seq.{take-add}
use Rattle.std.proofs.lemmas.Nat.{or_shifted, pow-add}
use Rattle.tmds_word.specs.Bits.{bits_of, word_bits, row_bits, bytes_bits, bytes_of}
use Rattle.tmds_word.proofs.Lists.{bits_of-join, bits_of-add, bytes_bits-append, row_bits-append, length-row_bits}
use Rattle.tmds_word.proofs.Rows.{joined_below}
use Rattle.tmds_word.proofs.Bytes.{bytes_of-bits}

take_four : (ws : List ℕ) (at x y z u : ℕ) → at + 4 ≤ length ws → take 4 (drop at ws) ≡ get_or ws at x ∷ get_or ws (at + 1) y ∷ get_or ws (at + 2) z ∷ get_or ws (at + 3) u ∷ []
take_four ws at x y z u room = grind (arith, drop-cons ws at x (omega arith), drop-cons ws (at + 1) y (omega arith), drop-cons ws (at + 2) z (omega arith), drop-cons ws (at + 3) u (omega arith))

pub four_of : (ws : List ℕ) (at a b c d x y z u : ℕ) → at + 4 ≤ length ws → a < 1024 → b < 1024 → c < 1024
    → a ≡ get_or ws at x → b ≡ get_or ws (at + 1) y → c ≡ get_or ws (at + 2) z → d ≡ get_or ws (at + 3) u
    → bits_of 40 (a + 1024 * (b + 1024 * (c + 1024 * d))) ≡ row_bits (take 4 (drop at ws))
unfolding row_bits word_bits
four_of ws at a b c d x y z u room la lb lc ea eb ec ed = grind (arith, take_four, append-nil, bits_of-join)

-- the shift loses no bit, and sets none of the tail's
pub after_is : (t h w a : ℕ) → t < 2 ^ h → w < 2 ^ 40 → h < 8 → a ≡ t → bit_or (w * 2 ^ h % 18446744073709551616) a ≡ t + 2 ^ h * w
after_is t h w a low high few e =
    let below : t + 2 ^ h * w < 2 ^ (h + 40) = joined_below h 40 t w low high in
    let most : 2 ^ (h + 40) ≤ 2 ^ 64 = pow_mono {i = h + 40} {j = 64} (omega arith) in
    let fits : w * 2 ^ h < 18446744073709551616 = omega arith in
    ap (λ b. bit_or (w * 2 ^ h % 18446744073709551616) b) e ∙ ap (λ n. bit_or n t) (mod-eq_of_lt fits) ∙ or_shifted w h t low ∙ omega arith

pub five_bytes : (n : ℕ) → take 5 (to_le_bytes w64 n) ≡ bytes_of 5 n
unfolding bytes_of
five_bytes n = grind arith

-- five bytes more
five_more : (done : List ℕ) (h t n w : ℕ) → t < 2 ^ h → n ≡ t + 2 ^ h * w → bytes_bits (done ++ bytes_of 5 n) ++ bits_of h (n / 2 ^ 40) ≡ (bytes_bits done ++ bits_of h t) ++ bits_of 40 w
five_more done h t n w lt e = grind (arith, bytes_bits-append, bytes_of-bits, append_assoc, bits_of-add, bits_of-join)

pub nothing_packed : (h t : ℕ) → bytes_bits [] ++ bits_of h t ≡ bits_of h t ++ row_bits []
unfolding bytes_bits row_bits
nothing_packed h t = sym (append-nil (bits_of h t))

-- what is left over of a number of fewer than h + 40 bits
pub left_over : (n h : ℕ) → n < 2 ^ (h + 40) → n / 2 ^ 40 < 2 ^ h
left_over n h lt =
    let p : 2 ^ (h + 40) ≡ 2 ^ h * 2 ^ 40 = pow-add 2 h 40 in
    omega arith

-- as many characters more as are taken next
pub row_more : (start xs : List Bool) (words : List ℕ) (from n : ℕ) → xs ≡ start ++ row_bits (take from words)
    → xs ++ row_bits (take n (drop from words)) ≡ start ++ row_bits (take (from + n) words)
row_more start xs words from n was = grind (arith, append_assoc, row_bits-append, take-add)

-- one group more
pub packed_more : (start : List Bool) (words into now : List ℕ) (i h t n w : ℕ) → t < 2 ^ h → n ≡ t + 2 ^ h * w
    → bits_of 40 w ≡ row_bits (take 4 (drop (4 * i) words)) → take (5 * i + 5) now ≡ take (5 * i) into ++ bytes_of 5 n
    → bytes_bits (take (5 * i) into) ++ bits_of h t ≡ start ++ row_bits (take (4 * i) words)
    → bytes_bits (take (5 * (i + 1)) now) ++ bits_of h (n / 2 ^ 40) ≡ start ++ row_bits (take (4 * (i + 1)) words)
packed_more start words into now i h t n w lt e four five was =
    let a : 5 * (i + 1) ≡ 5 * i + 5 = omega arith in
    let b : 4 * i + 4 ≡ 4 * (i + 1) = omega arith in
    ap (λ k. bytes_bits (take k now) ++ bits_of h (n / 2 ^ 40)) a
    ∙ ap (λ bs. bytes_bits bs ++ bits_of h (n / 2 ^ 40)) five
    ∙ five_more (take (5 * i) into) h t n w lt e
    ∙ ap (λ xs. (bytes_bits (take (5 * i) into) ++ bits_of h t) ++ xs) four
    ∙ row_more start (bytes_bits (take (5 * i) into) ++ bits_of h t) words (4 * i) 4 was
    ∙ ap (λ k. start ++ row_bits (take k words)) b

-- packed bytes after a row's own
pub row_packed : (whole packed words : List ℕ) (h t left : ℕ) (view : List Bool) → bytes_bits packed ++ bits_of h left ≡ bits_of h t ++ row_bits words
    → bytes_bits whole ++ bits_of h t ≡ view → bytes_bits (whole ++ packed) ++ bits_of h left ≡ view ++ row_bits words
row_packed whole packed words h t left view e f = grind (arith, bytes_bits-append, append_assoc)

pub no_more_words : (xs : List Bool) → xs ≡ xs ++ row_bits []
unfolding row_bits
no_more_words xs = sym (append-nil xs)

one_word : (v : ℕ) → row_bits (v ∷ []) ≡ word_bits v
unfolding row_bits
one_word v = append-nil (word_bits v)

-- one character more
pub word_after : (start xs : List Bool) (words : List ℕ) (i w d : ℕ) → xs ≡ start ++ row_bits (take i words) → i < length words → w ≡ get_or words i d
    → xs ++ word_bits w ≡ start ++ row_bits (take (i + 1) words)
word_after start xs words i w d was lt e =
    ap (λ n. xs ++ word_bits n) e
    ∙ ap (λ ys. xs ++ ys) (sym (one_word (get_or words i d)) ∙ ap row_bits (sym (ap (take 1) (drop-cons words i d lt))))
    ∙ row_more start xs words i 1 was

-- how long a row is with characters after it
pub length-more : (start xs : List Bool) (words : List ℕ) (n : ℕ) → xs ≡ start ++ row_bits (take n words) → n ≤ length words → length xs ≡ length start + 10 * n
length-more start xs words n e le =
    ap length e ∙ length-append start (row_bits (take n words)) ∙ omega (arith, length-row_bits (take n words), length-take-le n words le)
