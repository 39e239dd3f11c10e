-- Two groups of five bytes at once: the eight characters that a vector's lanes give.
use Rattle.std.proofs.Common.{◌≡◌, ℕ, suc, ◌+◌, ◌-◌, ◌*◌, ◌/◌, ◌%◌, ◌^◌, ◌<◌, ◌≤◌, List, [], ◌∷◌, ◌++◌, length, take, drop, refl, ap, ap₂, ◌∙◌, sym, arith, length-append, length-drop, append_assoc, get_or}
use Rattle.std.proofs.lemmas.List.{take-take, take_at, length-take-le}
use Rattle.std.proofs.lemmas.Simd.{get_or_narrower}
use borrow.Rule.Slice.PartMut.{put_mid}
use Rattle.std.proofs.lemmas.Slice.{take-put_mid}
use lib.Lanes.{zip2, pick_l, number_l, digits_l}
use Rattle.std.specs.Prelude.{replicate}
use Rattle.lane_align.specs.Words.{words_in}
use Rattle.lane_align.proofs.Cutting.{four_words}
use Rattle.lane_align.proofs.Fives.{group_written}

-- a lane of sixteen bits is made of two bytes
joined : (p q n : ℕ) (more : List ℕ) → p < 256 → q < 256 → digits_l 65536 (suc n) (number_l 256 (p ∷ (q ∷ more))) ≡ (p + 256 * q) ∷ digits_l 65536 n (number_l 256 more)
joined p q n more hp hq =
    let rest = number_l 256 more in
    let lane : (p + 256 * (q + 256 * rest)) % 65536 ≡ p + 256 * q = omega arith in
    let past : (p + 256 * (q + 256 * rest)) / 65536 ≡ rest = omega arith in
    λ i. lane i ∷ digits_l 65536 n (past i)

-- the bytes of two numbers
abbrev pub bytes_of : ℕ → ℕ → List ℕ
bytes_of a b = digits_l 256 16 (number_l 18446744073709551616 (a ∷ (b ∷ [])))

-- byte k of the numbers, from their lowest on
byte_at : ℕ → ℕ → ℕ → ℕ
byte_at a b k = get_or (bytes_of a b) k 0

-- each character of forty bits, from the two bytes in which it lies
word_first : (p q v : ℕ) → p ≡ v / 256 ^ 0 % 256 → q ≡ v / 256 ^ 1 % 256 → (p + 256 * q) * 64 % 65536 / 64 ≡ v % 1024
word_first p q v e f = omega (arith, e, f)

word_second : (p q v : ℕ) → p ≡ v / 256 ^ 1 % 256 → q ≡ v / 256 ^ 2 % 256 → (p + 256 * q) * 16 % 65536 / 64 ≡ v / 1024 % 1024
word_second p q v e f = omega (arith, e, f)

word_third : (p q v : ℕ) → p ≡ v / 256 ^ 2 % 256 → q ≡ v / 256 ^ 3 % 256 → (p + 256 * q) * 4 % 65536 / 64 ≡ v / 1048576 % 1024
word_third p q v e f = omega (arith, e, f)

word_fourth : (p q v : ℕ) → p ≡ v / 256 ^ 3 % 256 → q ≡ v / 256 ^ 4 % 256 → (p + 256 * q) * 1 % 65536 / 64 ≡ v / 1073741824 % 1024
word_fourth p q v e f = omega (arith, e, f)

module _ (a b : ℕ) (ha : a < 18446744073709551616) (hb : b < 18446744073709551616) where
  low : (i : ℕ) → i < 8 → byte_at a b i ≡ a / 256 ^ i % 256
  unfolding byte_at
  low i lt =
      let e : i ≡ 8 * 0 + i = omega arith in
      ap (byte_at a b) e ∙ get_or_narrower 18446744073709551616 8 256 16 (a ∷ (b ∷ [])) 0 i refl (ha, (hb, tt)) lt (omega arith)

  high : (i : ℕ) → i < 8 → byte_at a b (8 + i) ≡ b / 256 ^ i % 256
  unfolding byte_at
  high i lt = get_or_narrower 18446744073709551616 8 256 16 (a ∷ (b ∷ [])) 1 i refl (ha, (hb, tt)) lt (omega arith)

  -- the two bytes of each character, as lanes
  abbrev pub lanes : List ℕ
  lanes = digits_l 65536 8 (number_l 256 (pick_l 0 (bytes_of a b ++ bytes_of a b) (0 ∷ (1 ∷ (1 ∷ (2 ∷ (2 ∷ (3 ∷ (3 ∷ (4 ∷ (8 ∷ (9 ∷ (9 ∷ (10 ∷ (10 ∷ (11 ∷ (11 ∷ (12 ∷ []))))))))))))))))))

  below : (i : ℕ) → i < 8 → byte_at a b i < 256
  below i lt = let e = low i lt in omega (arith, e)

  above : (i : ℕ) → i < 8 → byte_at a b (8 + i) < 256
  above i lt = let e = high i lt in omega (arith, e)

  lanes_are : lanes ≡ (byte_at a b 0 + 256 * byte_at a b 1) ∷ ((byte_at a b 1 + 256 * byte_at a b 2) ∷ ((byte_at a b 2 + 256 * byte_at a b 3) ∷ ((byte_at a b 3 + 256 * byte_at a b 4) ∷ ((byte_at a b 8 + 256 * byte_at a b 9) ∷ ((byte_at a b 9 + 256 * byte_at a b 10) ∷ ((byte_at a b 10 + 256 * byte_at a b 11) ∷ ((byte_at a b 11 + 256 * byte_at a b 12) ∷ [])))))))
  unfolding byte_at
  lanes_are =
      joined (byte_at a b 0) (byte_at a b 1) 7 ((byte_at a b 1) ∷ ((byte_at a b 2) ∷ ((byte_at a b 2) ∷ ((byte_at a b 3) ∷ ((byte_at a b 3) ∷ ((byte_at a b 4) ∷ ((byte_at a b 8) ∷ ((byte_at a b 9) ∷ ((byte_at a b 9) ∷ ((byte_at a b 10) ∷ ((byte_at a b 10) ∷ ((byte_at a b 11) ∷ ((byte_at a b 11) ∷ ((byte_at a b 12) ∷ [])))))))))))))) (below 0 (omega arith)) (below 1 (omega arith))
      ∙ ap (λ (xs : List ℕ). (byte_at a b 0 + 256 * byte_at a b 1) ∷ (xs)) (joined (byte_at a b 1) (byte_at a b 2) 6 ((byte_at a b 2) ∷ ((byte_at a b 3) ∷ ((byte_at a b 3) ∷ ((byte_at a b 4) ∷ ((byte_at a b 8) ∷ ((byte_at a b 9) ∷ ((byte_at a b 9) ∷ ((byte_at a b 10) ∷ ((byte_at a b 10) ∷ ((byte_at a b 11) ∷ ((byte_at a b 11) ∷ ((byte_at a b 12) ∷ [])))))))))))) (below 1 (omega arith)) (below 2 (omega arith)))
      ∙ ap (λ (xs : List ℕ). (byte_at a b 0 + 256 * byte_at a b 1) ∷ ((byte_at a b 1 + 256 * byte_at a b 2) ∷ (xs))) (joined (byte_at a b 2) (byte_at a b 3) 5 ((byte_at a b 3) ∷ ((byte_at a b 4) ∷ ((byte_at a b 8) ∷ ((byte_at a b 9) ∷ ((byte_at a b 9) ∷ ((byte_at a b 10) ∷ ((byte_at a b 10) ∷ ((byte_at a b 11) ∷ ((byte_at a b 11) ∷ ((byte_at a b 12) ∷ [])))))))))) (below 2 (omega arith)) (below 3 (omega arith)))
      ∙ ap (λ (xs : List ℕ). (byte_at a b 0 + 256 * byte_at a b 1) ∷ ((byte_at a b 1 + 256 * byte_at a b 2) ∷ ((byte_at a b 2 + 256 * byte_at a b 3) ∷ (xs)))) (joined (byte_at a b 3) (byte_at a b 4) 4 ((byte_at a b 8) ∷ ((byte_at a b 9) ∷ ((byte_at a b 9) ∷ ((byte_at a b 10) ∷ ((byte_at a b 10) ∷ ((byte_at a b 11) ∷ ((byte_at a b 11) ∷ ((byte_at a b 12) ∷ [])))))))) (below 3 (omega arith)) (below 4 (omega arith)))
      ∙ ap (λ (xs : List ℕ). (byte_at a b 0 + 256 * byte_at a b 1) ∷ ((byte_at a b 1 + 256 * byte_at a b 2) ∷ ((byte_at a b 2 + 256 * byte_at a b 3) ∷ ((byte_at a b 3 + 256 * byte_at a b 4) ∷ (xs))))) (joined (byte_at a b 8) (byte_at a b 9) 3 ((byte_at a b 9) ∷ ((byte_at a b 10) ∷ ((byte_at a b 10) ∷ ((byte_at a b 11) ∷ ((byte_at a b 11) ∷ ((byte_at a b 12) ∷ [])))))) (above 0 (omega arith)) (above 1 (omega arith)))
      ∙ ap (λ (xs : List ℕ). (byte_at a b 0 + 256 * byte_at a b 1) ∷ ((byte_at a b 1 + 256 * byte_at a b 2) ∷ ((byte_at a b 2 + 256 * byte_at a b 3) ∷ ((byte_at a b 3 + 256 * byte_at a b 4) ∷ ((byte_at a b 8 + 256 * byte_at a b 9) ∷ (xs)))))) (joined (byte_at a b 9) (byte_at a b 10) 2 ((byte_at a b 10) ∷ ((byte_at a b 11) ∷ ((byte_at a b 11) ∷ ((byte_at a b 12) ∷ [])))) (above 1 (omega arith)) (above 2 (omega arith)))
      ∙ ap (λ (xs : List ℕ). (byte_at a b 0 + 256 * byte_at a b 1) ∷ ((byte_at a b 1 + 256 * byte_at a b 2) ∷ ((byte_at a b 2 + 256 * byte_at a b 3) ∷ ((byte_at a b 3 + 256 * byte_at a b 4) ∷ ((byte_at a b 8 + 256 * byte_at a b 9) ∷ ((byte_at a b 9 + 256 * byte_at a b 10) ∷ (xs))))))) (joined (byte_at a b 10) (byte_at a b 11) 1 ((byte_at a b 11) ∷ ((byte_at a b 12) ∷ [])) (above 2 (omega arith)) (above 3 (omega arith)))
      ∙ ap (λ (xs : List ℕ). (byte_at a b 0 + 256 * byte_at a b 1) ∷ ((byte_at a b 1 + 256 * byte_at a b 2) ∷ ((byte_at a b 2 + 256 * byte_at a b 3) ∷ ((byte_at a b 3 + 256 * byte_at a b 4) ∷ ((byte_at a b 8 + 256 * byte_at a b 9) ∷ ((byte_at a b 9 + 256 * byte_at a b 10) ∷ ((byte_at a b 10 + 256 * byte_at a b 11) ∷ (xs)))))))) (joined (byte_at a b 11) (byte_at a b 12) 0 [] (above 3 (omega arith)) (above 4 (omega arith)))

  -- each moved to the upper ten bits of its lane, and from there to the lower ten
  abbrev pub moved : List ℕ → List ℕ
  moved xs = zip2 (λ x n. x / 2 ^ n) (zip2 (λ x y. x * y % 65536) xs (64 ∷ (16 ∷ (4 ∷ (1 ∷ (64 ∷ (16 ∷ (4 ∷ (1 ∷ []))))))))) (replicate 8 6)

  pub eight_are : moved lanes ≡ words_in 4 a ++ words_in 4 b
  eight_are =
      let w0 = word_first (byte_at a b 0) (byte_at a b 1) a (low 0 (omega arith)) (low 1 (omega arith)) in
      let w1 = word_second (byte_at a b 1) (byte_at a b 2) a (low 1 (omega arith)) (low 2 (omega arith)) in
      let w2 = word_third (byte_at a b 2) (byte_at a b 3) a (low 2 (omega arith)) (low 3 (omega arith)) in
      let w3 = word_fourth (byte_at a b 3) (byte_at a b 4) a (low 3 (omega arith)) (low 4 (omega arith)) in
      let w4 = word_first (byte_at a b 8) (byte_at a b 9) b (high 0 (omega arith)) (high 1 (omega arith)) in
      let w5 = word_second (byte_at a b 9) (byte_at a b 10) b (high 1 (omega arith)) (high 2 (omega arith)) in
      let w6 = word_third (byte_at a b 10) (byte_at a b 11) b (high 2 (omega arith)) (high 3 (omega arith)) in
      let w7 = word_fourth (byte_at a b 11) (byte_at a b 12) b (high 3 (omega arith)) (high 4 (omega arith)) in
      ap moved lanes_are
      ∙ (λ i. w0 i ∷ (w1 i ∷ (w2 i ∷ (w3 i ∷ (w4 i ∷ (w5 i ∷ (w6 i ∷ (w7 i ∷ []))))))))
      ∙ ap₂ (λ (xs ys : List ℕ). xs ++ ys) (sym (four_words a)) (sym (four_words b))

four_long : (v : ℕ) → length (words_in 4 v) ≡ 4
unfolding words_in
four_long v = refl

pub eight_long : (a b : ℕ) → length (words_in 4 a ++ words_in 4 b) ≡ 8
unfolding words_in
eight_long a b = refl

-- the part of a row for eight characters
pub part_long : (row : List ℕ) (at : ℕ) → at + 8 ≤ length row → length (take ((at + 8) - at) (drop at row)) ≡ 8
part_long row at room =
    let n : (at + 8) - at ≡ 8 = omega arith in
    ap (λ k. length (take k (drop at row))) n ∙ length-take-le 8 (drop at row) (omega (arith, length-drop at row))

-- characters in the place of a part
pub part_put : (row words all : List ℕ) (at k : ℕ) → at + 8 ≤ length row → length words ≡ 8 → words ≡ all
    → (part : List ℕ) → part ≡ words → take (at + 8) (put_mid at k row part) ≡ take at row ++ all
part_put row words all at k room long is part whole =
    take-put_mid at k row part (at + 8) (omega (arith, ap length whole, long)) (omega arith) ∙ ap (λ ws. take at row ++ ws) (whole ∙ is)

-- two groups more were written
pub groups_written : (row after all : List ℕ) (big r i n at low high : ℕ) → r < 8 → 2 * i + 1 < n
    → low ≡ (big / 2 ^ (8 * (5 * (2 * i)))) % 18446744073709551616
    → high ≡ (big / 2 ^ (8 * (5 * (2 * i + 1)))) % 18446744073709551616
    → at + 4 * (2 * i) ≤ length row
    → take (at + 4 * (2 * i) + 8) after ≡ take (at + 4 * (2 * i)) row ++ (words_in 4 (low / 2 ^ r) ++ words_in 4 (high / 2 ^ r))
    → take (at + 4 * (2 * i)) row ++ words_in (4 * (n - 2 * i)) (big / 2 ^ (r + 40 * (2 * i))) ≡ all
    → take (at + 4 * (2 * (i + 1))) after ++ words_in (4 * (n - 2 * (i + 1))) (big / 2 ^ (r + 40 * (2 * (i + 1)))) ≡ all
groups_written row after all big r i n at low high few within is_low is_high room written was =
    let k = at + 4 * (2 * i) in
    let a = words_in 4 (low / 2 ^ r) in
    let b = words_in 4 (high / 2 ^ r) in
    let before = take k row in
    let size : length before ≡ k = length-take-le k row room in
    let place : k + 4 ≡ at + 4 * (2 * i + 1) = omega arith in
    let end : k + 8 ≡ at + 4 * (2 * i + 1) + 4 = omega arith in
    let four : length (before ++ a) ≡ k + 4 = length-append before a ∙ ap₂ (λ x y. x + y) size (four_long (low / 2 ^ r)) in
    let regrouped : take (k + 8) after ≡ (before ++ a) ++ b = written ∙ sym (append_assoc before a b) in
    let first : take (k + 4) after ≡ before ++ a =
    sym (take-take (k + 4) (k + 8) after (omega arith)) ∙ ap (take (k + 4)) regrouped ∙ take_at (before ++ a) b (k + 4) four in
    let second : take (at + 4 * (2 * i + 1) + 4) after ≡ take (at + 4 * (2 * i + 1)) after ++ b =
    ap (λ m. take m after) (sym end) ∙ regrouped ∙ ap (λ ws. ws ++ b) (sym first ∙ ap (λ m. take m after) place) in
    let next : 2 * (i + 1) ≡ 2 * i + 1 + 1 = omega arith in
    ap (λ m. take (at + 4 * m) after ++ words_in (4 * (n - m)) (big / 2 ^ (r + 40 * m))) next
    ∙ group_written after after all big r (2 * i + 1) n at high few within is_high second
    (group_written row after all big r (2 * i) n at low few (omega arith) is_low first was)
