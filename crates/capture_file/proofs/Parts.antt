-- Bytes that are written part after part, and the bits that a tap takes of rows.
use Rattle.std.proofs.Common.{◌≡◌, ℕ, suc, zero, ◌+◌, ◌-◌, ◌*◌, ◌/◌, ◌%◌, ◌^◌, ◌<◌, ◌≤◌, Bool, List, ◌++◌, length, take, drop, min, slice_index, refl, ap, ◌∙◌, sym, arith, subst, append_assoc, append-nil, add-one, inl, inr}
use Rattle.std.specs.Prelude.{Option, if◌then◌else◌}
use Rattle.std.proofs.Math.Seq.{take-append-add}
use Rattle.std.proofs.lemmas.Bool.{cases_lt}
use Rattle.std.proofs.lemmas.List.{take-append-le}
use Rattle.std.proofs.KnownBytes.{Appends-trans}
use Rattle.std.specs.Io.KnownBytes.{Appends}
use Rattle.tmds_word.specs.Column.{Column}
use Rattle.tmds_word.specs.Taps.{part_of}
use Rattle.capture_file.specs.declared.writing.Tap.{Tap}
use Rattle.capture_file.specs.Lanes.{Collected}
use Rattle.tmds_word.specs.Words.{all_words, columns_of}
use Rattle.capture_file.specs.Layout.{chunk, block, blocks_below}
use Rattle.capture_file.specs.Taps.{limited, tap_count, tap_of, HasBits}
use Rattle.tmds_word.proofs.Characters.{row_bits-words_of, length-words_of}
use Rattle.capture_file.proofs.Columns.{seen, lanes_of_columns, count_of_columns}
use Rattle.capture_file.proofs.Packing.{length-part}

-- two parts one after the other
pub Appends-two : (a b c : Option (List ℕ)) (x y whole : List ℕ) → whole ≡ x ++ y → Appends a b x → Appends b c y → Appends a c whole
Appends-two a b c x y whole is first second = subst (λ xs. Appends a c xs) (sym is) (Appends-trans a b c x y first second)

-- some of the first part
pub Appends-first : (a b : Option (List ℕ)) (x rest whole : List ℕ) (n : ℕ) → whole ≡ x ++ rest → n < length x → Appends a b (take n x) → Appends a b (take n whole)
Appends-first a b x rest whole n is some h =
    subst (λ xs. Appends a b xs) (sym (ap (λ xs. take n xs) is ∙ take-append-le n x rest (omega arith))) h

-- the first part, and some of the second
pub Appends-part : (a b c : Option (List ℕ)) (x y rest whole : List ℕ) (size n : ℕ) → whole ≡ (x ++ y) ++ rest → length x ≡ size → n < length y
    → Appends a b x → Appends b c (take n y) → Appends a c (take (size + n) whole)
Appends-part a b c x y rest whole size n is len some first second = grind (arith, append_assoc, take-append-add, take-append-le, Appends-trans)

-- the bits that a tap takes of three rows, and that the rows have them
pub record LaneParts (blue green red : List Bool) (p q r : ℕ) (columns : List Column) (tap : Tap) : Type 0 where
  pub blue_is : (tap_of columns tap).blue ≡ take p (drop (tap.offset + slice_index tap.skews 0) blue)
  pub green_is : (tap_of columns tap).green ≡ take q (drop (tap.offset + slice_index tap.skews 1) green)
  pub red_is : (tap_of columns tap).red ≡ take r (drop (tap.offset + slice_index tap.skews 2) red)
  pub blue_in : 0 < p → tap.offset + slice_index tap.skews 0 + p ≤ length blue
  pub green_in : 0 < q → tap.offset + slice_index tap.skews 1 + q ≤ length green
  pub red_in : 0 < r → tap.offset + slice_index tap.skews 2 + r ≤ length red

-- a lane begins no later than its lag says
pub if_least : (b : Bool) (s m : ℕ) → s ≤ m → s ≤ (if b then s else m)
if_least b s m h = grind arith

pub limited_le : (most : Option ℕ) (n : ℕ) → limited most n ≤ n
limited_le most n = grind arith

lane_is : (row : List Bool) (words : List ℕ) (from count bits : ℕ) → words ≡ all_words row → length row % 10 ≡ 0 → bits ≡ count → part_of words from count ≡ take bits (drop from row)
lane_is row words from count bits is whole same = grind (arith, row_bits-words_of)

lane_in : (n offset most skew bits len : ℕ) → bits ≤ 10 * n - offset - most → skew ≤ most → n ≡ len / 10 → 0 < bits → offset + skew + bits ≤ len
lane_in n offset most skew bits len le small count some = omega arith

pub lane_parts : (blue green red : List Bool) (refusals p q r : ℕ) (now : Collected) (tap : Tap) → seen blue green red refusals ≡ now
    → length blue % 10 ≡ 0 → length green ≡ length blue → length red ≡ length blue → p ≡ tap_count tap (length now.columns) 0 → q ≡ tap_count tap (length now.columns) 1
    → r ≡ tap_count tap (length now.columns) 2 → LaneParts blue green red p q r now.columns tap
lane_parts blue green red refusals p q r now tap is whole same_green same_red ep eq er =
    let columns = columns_of (all_words blue) (all_words green) (all_words red) in
    let from_seen : columns ≡ now.columns = ap (λ s. s.columns) is in
    let n = length now.columns in
    let counts : (row : List Bool) → length row ≡ length blue → length (all_words row) ≡ length (all_words blue) =
    λ row same. length-words_of row ∙ ap (λ m. m / 10) same ∙ sym (length-words_of blue) in
    let lanes = lanes_of_columns (all_words blue) (all_words green) (all_words red) (counts green same_green) (counts red same_red) in
    let number_of : n ≡ length blue / 10 = sym (ap length from_seen) ∙ count_of_columns blue green red same_green same_red in
    grind (arith, if_least, limited_le, lane_is, lane_in)

-- chunks, blocks and the capture

-- a part of a row has the length asked for
pub length-lane : (row : List Bool) (from bits : ℕ) → HasBits row from bits → length (take bits (drop from row)) ≡ bits
length-lane row from bits h = grind (arith, length-part)

-- a block is its three chunks
pub block_is : (j : ℕ) (a b c : List ℕ) → block j a b c ≡ (chunk j a ++ chunk j b) ++ chunk j c
unfolding block
block_is j a b c = refl

-- a header, and the blocks as far as one, one block more
pub blocks-more : (front a b c : List ℕ) (j : ℕ) → front ++ blocks_below (j + 1) a b c ≡ (front ++ blocks_below j a b c) ++ block j a b c
unfolding blocks_below
blocks-more front a b c j = ap (λ k. front ++ blocks_below k a b c) (add-one j) ∙ sym (append_assoc front (blocks_below j a b c) (block j a b c))

-- what follows a block
pub blocks_after : (j k : ℕ) (a b c : List ℕ) → j < k → (rest : List ℕ) × (blocks_below k a b c ≡ (blocks_below j a b c ++ block j a b c) ++ rest)
unfolding blocks_below
blocks_after j zero a b c lt = absurd (omega arith)
blocks_after j (suc k) a b c lt =
    elim (cases_lt j k) [
      | inl less ↦
          let more = blocks_after j k a b c less in
          (more.0 ++ block k a b c, ap (λ xs. xs ++ block k a b c) more.1 ∙ append_assoc (blocks_below j a b c ++ block j a b c) more.0 (block k a b c))
      | inr last ↦ grind (arith, append-nil)
    ]

pub no_blocks : (front a b c : List ℕ) → front ++ blocks_below 0 a b c ≡ front
unfolding blocks_below
no_blocks front a b c = append-nil front

-- a place that is kept below 2^32: it is the place itself wherever bits are asked for
pub lane_start : (row : List Bool) (place start bits : ℕ) → (0 < bits → place + bits ≤ length row) → length row < 2 ^ 32 → start ≡ min place 4294967295 → HasBits row start bits
lane_start row place start bits inside short is = grind arith

pub lane_same : (row : List Bool) (place start bits : ℕ) → (0 < bits → place + bits ≤ length row) → length row < 2 ^ 32 → start ≡ min place 4294967295
    → take bits (drop place row) ≡ take bits (drop start row)
lane_same row place start bits h k l = grind arith
