-- The aligned columns of a tap are received columns.
use Rattle.std.proofs.Common.{◌≡◌, ℕ, suc, zero, ◌+◌, ◌-◌, ◌*◌, ◌/◌, ◌<◌, ◌≤◌, Bool, List, [], ◌∷◌, ◌++◌, length, take, drop, get_or, refl, ap, ap₂, sym, ◌∙◌, subst, arith, length-take, length-drop}
use Rattle.std.proofs.Math.Seq.{drop-append_seam, drop-nil}
use Rattle.std.proofs.lemmas.List.{drop-drop, drop-take, take-take, drop-map, take-append-le, get_or-drop}
use Rattle.tmds_word.specs.Bits.{bits_of, word_bits, row_bits, number}
use Rattle.tmds_word.specs.Column.{Column, blues, greens, reds}
use Rattle.tmds_word.proofs.Lists.{length-word_bits, length-row_bits}
use Rattle.tmds_word.specs.Taps.{part_of}
use Rattle.lane_deskew.specs.Aligned.{aligned_columns}
use Rattle.tmds_word.specs.Words.{words_of, columns_of}
use Rattle.lane_align.specs.Words.{words_from}
use Rattle.link_laws.proofs.LaneEnds.{number_back}

-- Words.

ten : (w : ℕ) → take 10 (word_bits w) ≡ word_bits w
unfolding word_bits bits_of
ten w = refl

drop_within : (k : ℕ) (xs ys : List Bool) → k ≡ length xs → drop k (xs ++ ys) ≡ ys
drop_within k xs ys e = ap (λ n. drop n (xs ++ ys)) e ∙ drop-append_seam xs ys

-- the first word, and the bits after it
first_word : (w : ℕ) (ws : List ℕ) (k : ℕ) → w < 1024 → 10 ≤ k → number (take 10 (take k (row_bits (w ∷ ws)))) ≡ w
unfolding row_bits
first_word w ws k lt le =
    let l = length-word_bits w in
    ap number (take-take 10 k (word_bits w ++ row_bits ws) le ∙ take-append-le 10 (word_bits w) (row_bits ws) (omega arith) ∙ ten w) ∙ number_back w lt

rest_bits : (w : ℕ) (ws : List ℕ) (k : ℕ) → 10 ≤ k → drop 10 (take k (row_bits (w ∷ ws))) ≡ take (k - 10) (row_bits ws)
unfolding row_bits
rest_bits w ws k le =
    let l = length-word_bits w in
    let e : k ≡ 10 + (k - 10) = omega arith in
    ap (λ n. drop 10 (take n (word_bits w ++ row_bits ws))) e ∙ drop-take 10 (k - 10) (word_bits w ++ row_bits ws)
    ∙ ap (take (k - 10)) (drop_within 10 (word_bits w) (row_bits ws) (omega arith))

words_taken : (n : ℕ) (ws : List ℕ) (k : ℕ) → n ≤ length ws → 10 * n ≤ k → ((i : ℕ) → i < length ws → get_or ws i 0 < 1024) → words_of n (take k (row_bits ws)) ≡ take n ws
unfolding words_of
words_taken zero ws k long within small = refl
words_taken (suc n) [] k long within small = absurd (omega arith)
words_taken (suc n) (w ∷ ws) k long within small =
    ap₂ (λ (v : ℕ) (vs : List ℕ). v ∷ vs) (first_word w ws k (small zero (omega arith)) (omega arith))
    (ap (words_of n) (rest_bits w ws k (omega arith)) ∙ words_taken n ws (k - 10) (omega arith) (omega arith) (λ i lt. small (suc i) (omega arith)))

-- Lanes.

from_word : (a : ℕ) (words : List ℕ) → drop (10 * a) (row_bits words) ≡ row_bits (drop a words)
unfolding row_bits
from_word zero words = refl
from_word (suc a) [] = drop-nil (10 * suc a)
from_word (suc a) (w ∷ ws) =
    let l = length-word_bits w in
    let e : 10 * suc a ≡ 10 + 10 * a = omega arith in
    ap (λ n. drop n (word_bits w ++ row_bits ws)) e ∙ sym (drop-drop (10 * a) 10 (word_bits w ++ row_bits ws))
    ∙ ap (drop (10 * a)) (drop_within 10 (word_bits w) (row_bits ws) (omega arith)) ∙ from_word a ws

-- the bits of a lane from word a on
lane_from : (words : List ℕ) (from many p a : ℕ) → p + from ≡ 10 * a → p ≤ many → drop p (part_of words from many) ≡ take (many - p) (row_bits (drop a words))
lane_from words from many p a e le = grind (arith, drop-take p (many - p) (drop from (row_bits words)), drop-drop p from (row_bits words), from_word a words)

abbrev whole_words : List Bool → ℕ → ℕ
whole_words xs p = (length xs - p) / 10

-- the whole words of a lane from word a on
lane_words : (words : List ℕ) (from many p a : ℕ) → p + from ≡ 10 * a → p ≤ length (part_of words from many) → ((i : ℕ) → i < length words → get_or words i 0 < 1024)
    → words_from (part_of words from many) p ≡ take (whole_words (part_of words from many) p) (drop a words)
unfolding words_from
lane_words words from many p a e le small =
    let bits = row_bits words in
    let t = length-take many (drop from bits) in
    let r = length-drop from bits in
    let l = length-row_bits words in
    let rest = length-drop a words in
    let n = whole_words (part_of words from many) p in
    ap (words_of n) (lane_from words from many p a e (omega arith))
    ∙ words_taken n (drop a words) (many - p) (omega arith) (omega arith)
    (λ i lt. subst (λ w. w < 1024) (sym (get_or-drop a words i 0)) (small (a + i) (omega arith)))

-- Columns.

abbrev lanes_of : ℕ → ℕ → ℕ → List Column → List Column
lanes_of k m n cs = columns_of (take k (blues cs)) (take m (greens cs)) (take n (reds cs))

lanes_taken : (k m n : ℕ) (cs : List Column) → lanes_of k m n cs ≡ take (length (lanes_of k m n cs)) cs
unfolding columns_of
lanes_taken zero m n cs = refl
lanes_taken (suc k) m n [] = refl
lanes_taken (suc k) zero n (c ∷ cs) = refl
lanes_taken (suc k) (suc m) zero (c ∷ cs) = refl
lanes_taken (suc k) (suc m) (suc n) (c ∷ cs) = ap (λ ds. c ∷ ds) (lanes_taken k m n cs)

-- the columns from places of three lanes that are those of column a
columns_from : (cs : List Column) (n1 n2 n3 a : ℕ) (x y z : List ℕ) → x ≡ take n1 (drop a (blues cs)) → y ≡ take n2 (drop a (greens cs)) → z ≡ take n3 (drop a (reds cs))
    → columns_of x y z ≡ take (length (columns_of x y z)) (drop a cs)
columns_from cs n1 n2 n3 a x y z ex ey ez = grind (arith, drop-map, lanes_taken)

-- each word of a lane is a character
abbrev pub AreCharacters : List ℕ → Type 0
AreCharacters words = (i : ℕ) → i < length words → get_or words i 0 < 1024

lane_taken : (words : List ℕ) (from many p a : ℕ) (x : List Bool) → x ≡ part_of words from many → p + from ≡ 10 * a → p ≤ length x → AreCharacters words
    → words_from x p ≡ take (whole_words x p) (drop a words)
lane_taken words from many p a x is e le small =
    subst (λ ys. p ≤ length ys → words_from ys p ≡ take (whole_words ys p) (drop a words)) (sym is) (λ within. lane_words words from many p a e within small) le

-- places of three lanes at which the characters of column a begin
pub record BeginAt (cs : List Column) (from1 from2 from3 many1 many2 many3 a : ℕ) (x y z : List Bool) (d e f : ℕ) : Type 0 where
  pub blue : x ≡ part_of (blues cs) from1 many1
  pub green : y ≡ part_of (greens cs) from2 many2
  pub red : z ≡ part_of (reds cs) from3 many3
  pub blue_begins : d - 120 + from1 ≡ 10 * a
  pub green_begins : e - 120 + from2 ≡ 10 * a
  pub red_begins : f - 120 + from3 ≡ 10 * a
  pub blue_within : d ≤ length x
  pub green_within : e ≤ length y
  pub red_within : f ≤ length z

pub columns_taken : (cs : List Column) (from1 from2 from3 many1 many2 many3 a : ℕ) (x y z : List Bool) (d e f : ℕ) → BeginAt cs from1 from2 from3 many1 many2 many3 a x y z d e f
    → AreCharacters (blues cs) → AreCharacters (greens cs) → AreCharacters (reds cs)
    → aligned_columns x y z d e f ≡ take (length (aligned_columns x y z d e f)) (drop a cs)
unfolding aligned_columns
columns_taken cs from1 from2 from3 many1 many2 many3 a x y z d e f at blue green red =
    let w1 = at.blue_within in
    let w2 = at.green_within in
    let w3 = at.red_within in
    columns_from cs (whole_words x (d - 120)) (whole_words y (e - 120)) (whole_words z (f - 120)) a
    (words_from x (d - 120)) (words_from y (e - 120)) (words_from z (f - 120))
    (lane_taken (blues cs) from1 many1 (d - 120) a x at.blue at.blue_begins (omega arith) blue)
    (lane_taken (greens cs) from2 many2 (e - 120) a y at.green at.green_begins (omega arith) green)
    (lane_taken (reds cs) from3 many3 (f - 120) a z at.red at.red_begins (omega arith) red)
