-- Rows of eight codes: the bits of blocks, the sync values and the counts that they hold.
use Rattle.std.proofs.Common.{◌≡◌, ℕ, suc, zero, ◌+◌, ◌*◌, ◌/◌, ◌%◌, ◌<◌, ◌≤◌, Bool, true, false, not, List, [], ◌∷◌, ◌++◌, length, map, take, drop, get_or, refl, ap, ap₂, ◌∙◌, sym, arith, ◌==◌, eqb-true, slice_index}
use Rattle.std.specs.Prelude.{count_by, count_ones, slice_index_or, cond}
use Rattle.std.specs.List.{sum_by}
use Rattle.std.specs.Int.{bit_at}
use Rattle.std.proofs.lemmas.List.{get_or-map, length-map, drop_all}
use Rattle.std.proofs.lemmas.List.Sums.{sum_by-drop_more}
use Rattle.std.proofs.lemmas.Grind.{same_number_lists}
use Rattle.std.proofs.lemmas.Nat.Bits.{bit_at-lt}
use mir.Val.{bool_byte}
use Rattle.tmds_word.proofs.Below.{passes_below, passes_at}
use Rattle.terc4.specs.Tables.{is_terc}
use Rattle.bch_block.specs.Bits.{bit, byte_bits, bits_of_bytes}
use Rattle.island_pack.specs.Nibbles.{nibble_of, nibbles_of, by_turns, is_foreign, foreign_on, foreign_words}
use Rattle.island_pack.specs.Registers.{code_of, spread_of, HasCodes, blue_code, other_code, AreBlueRows, AreOtherRows, bits_set, foreign_of, mark_of, sync_in}
use Rattle.island_pack.proofs.Columns.{nibble_of_code, strange_of_code, code_below, length-nibbles_of}
use Rattle.island_pack.proofs.Parts.{four_from, eight_from, four_lists, eight_lists, turns_part, map_part}

-- what holds of each of eight places
pub each_eight : (P : ℕ → Type 0) → P 0 → P 1 → P 2 → P 3 → P 4 → P 5 → P 6 → P 7 → (k : ℕ) → k < 8 → P k
each_eight P p0 p1 p2 p3 p4 p5 p6 p7 zero lt = p0
each_eight P p0 p1 p2 p3 p4 p5 p6 p7 (suc zero) lt = p1
each_eight P p0 p1 p2 p3 p4 p5 p6 p7 (suc (suc zero)) lt = p2
each_eight P p0 p1 p2 p3 p4 p5 p6 p7 (suc (suc (suc zero))) lt = p3
each_eight P p0 p1 p2 p3 p4 p5 p6 p7 (suc (suc (suc (suc zero)))) lt = p4
each_eight P p0 p1 p2 p3 p4 p5 p6 p7 (suc (suc (suc (suc (suc zero))))) lt = p5
each_eight P p0 p1 p2 p3 p4 p5 p6 p7 (suc (suc (suc (suc (suc (suc zero)))))) lt = p6
each_eight P p0 p1 p2 p3 p4 p5 p6 p7 (suc (suc (suc (suc (suc (suc (suc zero))))))) lt = p7
each_eight P p0 p1 p2 p3 p4 p5 p6 p7 (suc (suc (suc (suc (suc (suc (suc (suc k)))))))) lt = absurd (omega arith)

-- the bits of a byte, one by one
pub bits_by_places : (byte : ℕ) (x : ℕ → ℕ) → ((k : ℕ) → k < 8 → bit_at byte k ≡ x k)
    → byte_bits byte ≡ (x 0 == 1) ∷ (x 1 == 1) ∷ (x 2 == 1) ∷ (x 3 == 1) ∷ (x 4 == 1) ∷ (x 5 == 1) ∷ (x 6 == 1) ∷ (x 7 == 1) ∷ []
bits_by_places byte x h =
    λ i. (h 0 (omega arith) i == 1) ∷ (h 1 (omega arith) i == 1) ∷ (h 2 (omega arith) i == 1) ∷ (h 3 (omega arith) i == 1) ∷ (h 4 (omega arith) i == 1) ∷ (h 5 (omega arith) i == 1) ∷ (h 6 (omega arith) i == 1) ∷ (h 7 (omega arith) i == 1) ∷ []

-- a code's low bits are those of its nibble, and bit 4 says that its word is no TERC4 word
low_bits : (c n b : ℕ) → c % 16 ≡ n → b < 4 → bit_at c b ≡ bit_at n b
low_bits c n zero e lt = omega (arith, e)
low_bits c n (suc zero) e lt = omega (arith, e)
low_bits c n (suc (suc zero)) e lt = omega (arith, e)
low_bits c n (suc (suc (suc zero))) e lt = omega (arith, e)
low_bits c n (suc (suc (suc (suc b)))) e lt = absurd (omega arith)

pub nibble_bit : (w b : ℕ) → b < 4 → bit_at (code_of w) b ≡ bit_at (nibble_of w) b
nibble_bit w b lt = low_bits (code_of w) (nibble_of w) b (nibble_of_code w) lt

fifth_bit : (c : ℕ) → c < 17 → bit_at c 4 ≡ c / 16
fifth_bit c lt = omega arith

foreign_bit : (w : ℕ) → bit_at (code_of w) 4 ≡ bool_byte (not (is_terc w))
foreign_bit w = fifth_bit (code_of w) (code_below w) ∙ strange_of_code w

-- a nibble of a lane
nibble_at : (columns : List (List ℕ)) (lane k : ℕ) → length columns ≡ 32 → k < 32 → get_or (nibbles_of columns lane) k 0 ≡ nibble_of (slice_index (get_or columns k []) lane)
unfolding nibbles_of
nibble_at columns lane k long lt = get_or-map (λ words. nibble_of (slice_index words lane)) columns k [] 0 (omega arith)

lane_bit : (columns : List (List ℕ)) (lane k b : ℕ) → length columns ≡ 32 → k < 32 → b < 4
    → bit_at (code_of (slice_index (get_or columns k []) lane)) b ≡ bit_at (get_or (nibbles_of columns lane) k 0) b
lane_bit columns lane k b long lt small =
    nibble_bit (slice_index (get_or columns k []) lane) b small ∙ ap (λ n. bit_at n b) (sym (nibble_at columns lane k long lt))

-- the bit of a row's code, from the nibbles of its lane
code_bit : (columns : List (List ℕ)) (lane m k b : ℕ) → length columns ≡ 32 → k < 32 → b < 4 → m ≡ k
    → bit_at (code_of (slice_index (get_or columns m []) lane)) b ≡ bit_at (get_or (nibbles_of columns lane) k 0) b
code_bit columns lane m k b long lt small e =
    ap (λ j. bit_at (code_of (slice_index (get_or columns j []) lane)) b) e ∙ lane_bit columns lane k b long lt small

-- the byte of a body's block that four columns carry
turns_of_row : (columns : List (List ℕ)) (row : List ℕ) (n b : ℕ) → length columns ≡ 32 → n + 4 ≤ 32 → b < 4 → HasCodes row (other_code columns n)
    → byte_bits (slice_index row b) ≡ by_turns b (take 4 (drop n (nibbles_of columns 1))) (take 4 (drop n (nibbles_of columns 2)))
unfolding by_turns
turns_of_row columns row n b long le small has =
    let green = nibbles_of columns 1 in
    let red = nibbles_of columns 2 in
    bits_by_places (slice_index row b) (λ k. bit_at (other_code columns n k) b) (λ k lt. has b k (omega arith) lt)
    ∙ (λ i.
    (code_bit columns 1 (n + 0 / 2) n b long (omega arith) small (omega arith) i == 1)
    ∷ (code_bit columns 2 (n + 1 / 2) n b long (omega arith) small (omega arith) i == 1)
    ∷ (code_bit columns 1 (n + 2 / 2) (n + 1) b long (omega arith) small (omega arith) i == 1)
    ∷ (code_bit columns 2 (n + 3 / 2) (n + 1) b long (omega arith) small (omega arith) i == 1)
    ∷ (code_bit columns 1 (n + 4 / 2) (n + 2) b long (omega arith) small (omega arith) i == 1)
    ∷ (code_bit columns 2 (n + 5 / 2) (n + 2) b long (omega arith) small (omega arith) i == 1)
    ∷ (code_bit columns 1 (n + 6 / 2) (n + 3) b long (omega arith) small (omega arith) i == 1)
    ∷ (code_bit columns 2 (n + 7 / 2) (n + 3) b long (omega arith) small (omega arith) i == 1)
    ∷ [])
    ∙ sym (ap₂ (by_turns b) (four_from green n (omega (arith, length-nibbles_of columns 1))) (four_from red n (omega (arith, length-nibbles_of columns 2))))

-- and the byte of the header's block that eight columns carry
header_of_row : (columns : List (List ℕ)) (row : List ℕ) (n : ℕ) → length columns ≡ 32 → n + 8 ≤ 32 → HasCodes row (λ k. blue_code columns (n + k))
    → byte_bits (slice_index row 2) ≡ map (λ m. bit m 2) (take 8 (drop n (nibbles_of columns 0)))
header_of_row columns row n long le has =
    let blue = nibbles_of columns 0 in
    bits_by_places (slice_index row 2) (λ k. bit_at (blue_code columns (n + k)) 2) (λ k lt. has 2 k (omega arith) lt)
    ∙ (λ i.
    (code_bit columns 0 (n + 0) n 2 long (omega arith) (omega arith) (omega arith) i == 1)
    ∷ (code_bit columns 0 (n + 1) (n + 1) 2 long (omega arith) (omega arith) refl i == 1)
    ∷ (code_bit columns 0 (n + 2) (n + 2) 2 long (omega arith) (omega arith) refl i == 1)
    ∷ (code_bit columns 0 (n + 3) (n + 3) 2 long (omega arith) (omega arith) refl i == 1)
    ∷ (code_bit columns 0 (n + 4) (n + 4) 2 long (omega arith) (omega arith) refl i == 1)
    ∷ (code_bit columns 0 (n + 5) (n + 5) 2 long (omega arith) (omega arith) refl i == 1)
    ∷ (code_bit columns 0 (n + 6) (n + 6) 2 long (omega arith) (omega arith) refl i == 1)
    ∷ (code_bit columns 0 (n + 7) (n + 7) 2 long (omega arith) (omega arith) refl i == 1)
    ∷ [])
    ∙ sym (ap (map (λ m. bit m 2)) (eight_from blue n (omega (arith, length-nibbles_of columns 0))))

-- the byte of four columns, before those of the columns after them
before : (b byte n : ℕ) (gs rs : List ℕ) (rest : List Bool) → length gs ≡ 32 → length rs ≡ 32 → n + 4 ≤ 32
    → byte_bits byte ≡ by_turns b (take 4 (drop n gs)) (take 4 (drop n rs)) → by_turns b (drop (n + 4) gs) (drop (n + 4) rs) ≡ rest
    → by_turns b (drop n gs) (drop n rs) ≡ byte_bits byte ++ rest
before b byte n gs rs rest lg lr le e f =
    turns_part b gs rs n (omega arith) (omega arith) ∙ ap₂ (λ xs ys. xs ++ ys) (sym e) f

none_left : (b : ℕ) (gs rs : List ℕ) → gs ≡ [] → by_turns b gs rs ≡ []
unfolding by_turns
none_left b gs rs e = sym (λ i. by_turns b (sym e i) rs)

-- a body's block, from the rows of lanes 1 and 2
pub body_of_rows : (columns rows : List (List ℕ)) (b : ℕ) → length columns ≡ 32 → length rows ≡ 8 → b < 4 → AreOtherRows columns rows
    → bits_of_bytes (map (λ row. slice_index row b) rows) ≡ by_turns b (nibbles_of columns 1) (nibbles_of columns 2)
body_of_rows columns rows b long eight small are =
    let gs = nibbles_of columns 1 in
    let rs = nibbles_of columns 2 in
    let lg : length gs ≡ 32 = length-nibbles_of columns 1 ∙ long in
    let lr : length rs ≡ 32 = length-nibbles_of columns 2 ∙ long in
    ap (λ (them : List (List ℕ)). bits_of_bytes (map (λ row. slice_index row b) them)) (eight_lists rows eight)
    ∙ sym (before b _ 0 gs rs _ lg lr (omega arith) (turns_of_row columns (get_or rows 0 []) 0 b long (omega arith) small (are 0 (omega arith)))
    (before b _ 4 gs rs _ lg lr (omega arith) (turns_of_row columns (get_or rows 1 []) 4 b long (omega arith) small (are 1 (omega arith)))
    (before b _ 8 gs rs _ lg lr (omega arith) (turns_of_row columns (get_or rows 2 []) 8 b long (omega arith) small (are 2 (omega arith)))
    (before b _ 12 gs rs _ lg lr (omega arith) (turns_of_row columns (get_or rows 3 []) 12 b long (omega arith) small (are 3 (omega arith)))
    (before b _ 16 gs rs _ lg lr (omega arith) (turns_of_row columns (get_or rows 4 []) 16 b long (omega arith) small (are 4 (omega arith)))
    (before b _ 20 gs rs _ lg lr (omega arith) (turns_of_row columns (get_or rows 5 []) 20 b long (omega arith) small (are 5 (omega arith)))
    (before b _ 24 gs rs _ lg lr (omega arith) (turns_of_row columns (get_or rows 6 []) 24 b long (omega arith) small (are 6 (omega arith)))
    (before b _ 28 gs rs [] lg lr (omega arith) (turns_of_row columns (get_or rows 7 []) 28 b long (omega arith) small (are 7 (omega arith)))
    (none_left b (drop 32 gs) (drop 32 rs) (drop_all 32 gs (omega arith)))))))))))

-- the header's block, from the rows of lane 0
pub header_of_rows : (columns rows : List (List ℕ)) → length columns ≡ 32 → length rows ≡ 4 → AreBlueRows columns rows
    → bits_of_bytes (map (λ row. slice_index row 2) rows) ≡ map (λ n. bit n 2) (nibbles_of columns 0)
header_of_rows columns rows long four are =
    let f : ℕ → Bool = λ n. bit n 2 in
    let ns = nibbles_of columns 0 in
    let rest : map f (drop 24 ns) ≡ byte_bits (slice_index (get_or rows 3 []) 2) ++ [] =
    map_part f ns 24 8
    ∙ ap₂ (λ xs (ys : List ℕ). xs ++ map f ys) (sym (header_of_row columns (get_or rows 3 []) 24 long (omega arith) (are 3 (omega arith))))
    (drop_all 32 ns (omega (arith, length-nibbles_of columns 0))) in
    ap (λ (them : List (List ℕ)). bits_of_bytes (map (λ row. slice_index row 2) them)) (four_lists rows four)
    ∙ sym (map_part f ns 0 8
    ∙ ap₂ (λ xs ys. xs ++ ys) (sym (header_of_row columns (get_or rows 0 []) 0 long (omega arith) (are 0 (omega arith))))
    (map_part f ns 8 8
    ∙ ap₂ (λ xs ys. xs ++ ys) (sym (header_of_row columns (get_or rows 1 []) 8 long (omega arith) (are 1 (omega arith))))
    (map_part f ns 16 8
    ∙ ap₂ (λ xs ys. xs ++ ys) (sym (header_of_row columns (get_or rows 2 []) 16 long (omega arith) (are 2 (omega arith)))) rest)))

-- the sync values
low_two : (c n : ℕ) → bit_at c 0 ≡ bit_at n 0 → bit_at c 1 ≡ bit_at n 1 → bit_at c 0 + 2 * bit_at c 1 ≡ n % 4
low_two c n e f = omega arith

sync_of_row : (columns : List (List ℕ)) (row : List ℕ) (n k i : ℕ) → length columns ≡ 32 → i < 32 → k < 8 → n + k ≡ i → HasCodes row (λ j. blue_code columns (n + j))
    → sync_in row k ≡ get_or (nibbles_of columns 0) i 0 % 4
sync_of_row columns row n k i long lt small e has =
    (λ j. has 0 k (omega arith) small j + 2 * has 1 k (omega arith) small j)
    ∙ low_two _ _ (code_bit columns 0 (n + k) i 0 long lt (omega arith) e) (code_bit columns 0 (n + k) i 1 long lt (omega arith) e)

pub sync_of_rows : (columns rows : List (List ℕ)) (sync : List ℕ) → length columns ≡ 32 → length sync ≡ 32 → AreBlueRows columns rows
    → ((r k : ℕ) → r < 4 → k < 8 → slice_index sync (8 * r + k) ≡ sync_in (slice_index_or rows r []) k) → sync ≡ map (λ n. n % 4) (nibbles_of columns 0)
sync_of_rows columns rows sync long long_sync are has =
    let ns = nibbles_of columns 0 in
    same_number_lists sync (map (λ n. n % 4) ns) (long_sync ∙ sym (length-map ns (λ n. n % 4) ∙ length-nibbles_of columns 0 ∙ long))
    (λ i lt.
    let less : i < 32 = omega arith in
    let place : 8 * (i / 8) + i % 8 ≡ i = omega arith in
    ap (slice_index sync) (sym place) ∙ has (i / 8) (i % 8) (omega arith) (omega arith)
    ∙ sync_of_row columns (slice_index_or rows (i / 8) []) (8 * (i / 8)) (i % 8) i long less (omega arith) place (are (i / 8) (omega arith))
    ∙ sym (get_or-map (λ n. n % 4) ns i 0 0 (omega (arith, length-nibbles_of columns 0))))

-- The words that are no TERC4 words.

one_or_zero : (b : Bool) → cond b 1 0 ≡ bool_byte b
one_or_zero true = refl
one_or_zero false = refl

-- how many stand on a lane from a column on
left_on : List (List ℕ) → ℕ → ℕ → ℕ
left_on columns lane m = count_by (is_foreign lane) (drop m columns)

next_on : (columns : List (List ℕ)) (lane m : ℕ) → m < length columns
    → left_on columns lane m ≡ bit_at (code_of (slice_index (get_or columns m []) lane)) 4 + left_on columns lane (m + 1)
unfolding left_on is_foreign
next_on columns lane m lt =
    sum_by-drop_more (λ words. cond (is_foreign lane words) 1 0) columns m [] lt
    ∙ ap (λ x. x + count_by (is_foreign lane) (drop (m + 1) columns))
    (one_or_zero (is_foreign lane (get_or columns m [])) ∙ sym (foreign_bit (slice_index (get_or columns m []) lane)))

eight_steps : (s x : ℕ → ℕ) (n : ℕ) → ((k : ℕ) → k < 8 → s (n + k) ≡ x k + s (n + (k + 1)))
    → s (n + 0) ≡ x 0 + x 1 + x 2 + x 3 + x 4 + x 5 + x 6 + x 7 + s (n + 8)
eight_steps s x n h =
    omega (arith, h 0 (omega arith), h 1 (omega arith), h 2 (omega arith), h 3 (omega arith), h 4 (omega arith), h 5 (omega arith), h 6 (omega arith), h 7 (omega arith))

four_steps : (s x : ℕ → ℕ) (n : ℕ) → ((k : ℕ) → k < 4 → s (n + k) ≡ x (2 * k) + x (2 * k + 1) + s (n + (k + 1)))
    → s (n + 0) ≡ x 0 + x 1 + x 2 + x 3 + x 4 + x 5 + x 6 + x 7 + s (n + 4)
four_steps s x n h = omega (arith, h 0 (omega arith), h 1 (omega arith), h 2 (omega arith), h 3 (omega arith))

set_by_places : (row : List ℕ) (code : ℕ → ℕ) → HasCodes row code
    → foreign_of row ≡ bit_at (code 0) 4 + bit_at (code 1) 4 + bit_at (code 2) 4 + bit_at (code 3) 4 + bit_at (code 4) 4 + bit_at (code 5) 4 + bit_at (code 6) 4 + bit_at (code 7) 4
unfolding bits_set
set_by_places row code has =
    λ i.
    has 4 0 (omega arith) (omega arith) i + has 4 1 (omega arith) (omega arith) i + has 4 2 (omega arith) (omega arith) i + has 4 3 (omega arith) (omega arith) i
    + has 4 4 (omega arith) (omega arith) i + has 4 5 (omega arith) (omega arith) i + has 4 6 (omega arith) (omega arith) i + has 4 7 (omega arith) (omega arith) i

blue_count : (columns : List (List ℕ)) (row : List ℕ) (n : ℕ) → length columns ≡ 32 → n + 8 ≤ 32 → HasCodes row (λ k. blue_code columns (n + k))
    → left_on columns 0 (n + 0) ≡ foreign_of row + left_on columns 0 (n + 8)
blue_count columns row n long le has =
    eight_steps (left_on columns 0) (λ k. bit_at (blue_code columns (n + k)) 4) n
    (λ k lt. next_on columns 0 (n + k) (omega arith) ∙ ap (λ m. bit_at (blue_code columns (n + k)) 4 + left_on columns 0 m) (omega arith))
    ∙ ap (λ x. x + left_on columns 0 (n + 8)) (sym (set_by_places row (λ k. blue_code columns (n + k)) has))

other_count : (columns : List (List ℕ)) (row : List ℕ) (n : ℕ) → length columns ≡ 32 → n + 4 ≤ 32 → HasCodes row (other_code columns n)
    → left_on columns 1 (n + 0) + left_on columns 2 (n + 0) ≡ foreign_of row + (left_on columns 1 (n + 4) + left_on columns 2 (n + 4))
other_count columns row n long le has =
    four_steps (λ m. left_on columns 1 m + left_on columns 2 m) (λ k. bit_at (other_code columns n k) 4) n
    (λ k lt.
    let first : n + 2 * k / 2 ≡ n + k = omega arith in
    let second : n + (2 * k + 1) / 2 ≡ n + k = omega arith in
    let green : 1 + 2 * k % 2 ≡ 1 = omega arith in
    let red : 1 + (2 * k + 1) % 2 ≡ 2 = omega arith in
    let one : bit_at (other_code columns n (2 * k)) 4 ≡ bit_at (code_of (slice_index (get_or columns (n + k) []) 1)) 4 =
    λ i. bit_at (code_of (slice_index (get_or columns (first i) []) (green i))) 4 in
    let two : bit_at (other_code columns n (2 * k + 1)) 4 ≡ bit_at (code_of (slice_index (get_or columns (n + k) []) 2)) 4 =
    λ i. bit_at (code_of (slice_index (get_or columns (second i) []) (red i))) 4 in
    let more : n + k + 1 ≡ n + (k + 1) = omega arith in
    omega (arith, one, two, next_on columns 1 (n + k) (omega arith), next_on columns 2 (n + k) (omega arith), ap (left_on columns 1) more, ap (left_on columns 2) more))
    ∙ ap (λ x. x + (left_on columns 1 (n + 4) + left_on columns 2 (n + 4))) (sym (set_by_places row (other_code columns n) has))

none_on : (columns : List (List ℕ)) (lane : ℕ) → length columns ≡ 32 → left_on columns lane 32 ≡ 0
unfolding left_on
none_on columns lane long = ap (count_by (is_foreign lane)) (drop_all 32 columns (omega arith))

all_on : (columns : List (List ℕ)) (lane : ℕ) → left_on columns lane 0 ≡ foreign_on columns lane
unfolding left_on foreign_on
all_on columns lane = refl

pub foreign_of_rows : (columns blue others : List (List ℕ)) → length columns ≡ 32 → length blue ≡ 4 → length others ≡ 8 → AreBlueRows columns blue → AreOtherRows columns others
    → sum_by foreign_of blue + sum_by foreign_of others ≡ foreign_words columns
unfolding foreign_words
foreign_of_rows columns blue others long four eight are others_are =
    ap₂ (λ (xs ys : List (List ℕ)). sum_by foreign_of xs + sum_by foreign_of ys) (four_lists blue four) (eight_lists others eight)
    ∙ omega (
      arith,
      none_on columns 0 long,
      none_on columns 1 long,
      none_on columns 2 long,
      all_on columns 0,
      all_on columns 1,
      all_on columns 2,
      blue_count columns (get_or blue 0 []) 0 long (omega arith) (are 0 (omega arith)),
      blue_count columns (get_or blue 1 []) 8 long (omega arith) (are 1 (omega arith)),
      blue_count columns (get_or blue 2 []) 16 long (omega arith) (are 2 (omega arith)),
      blue_count columns (get_or blue 3 []) 24 long (omega arith) (are 3 (omega arith)),
      other_count columns (get_or others 0 []) 0 long (omega arith) (others_are 0 (omega arith)),
      other_count columns (get_or others 1 []) 4 long (omega arith) (others_are 1 (omega arith)),
      other_count columns (get_or others 2 []) 8 long (omega arith) (others_are 2 (omega arith)),
      other_count columns (get_or others 3 []) 12 long (omega arith) (others_are 3 (omega arith)),
      other_count columns (get_or others 4 []) 16 long (omega arith) (others_are 4 (omega arith)),
      other_count columns (get_or others 5 []) 20 long (omega arith) (others_are 5 (omega arith)),
      other_count columns (get_or others 6 []) 24 long (omega arith) (others_are 6 (omega arith)),
      other_count columns (get_or others 7 []) 28 long (omega arith) (others_are 7 (omega arith)),
    )

-- where no byte of bits 4 has one, none stands there
bits_of_none : (n : ℕ) → n ≡ 0 → bits_set n ≡ 0
unfolding bits_set
bits_of_none n e = omega (arith, e)

pub none_marked : (blue others : List (List ℕ)) → length blue ≡ 4 → length others ≡ 8 → sum_by mark_of blue + sum_by mark_of others ≡ 0
    → sum_by foreign_of blue + sum_by foreign_of others ≡ 0
none_marked blue others four eight e =
    let all = ap₂ (λ (xs ys : List (List ℕ)). sum_by mark_of xs + sum_by mark_of ys) (sym (four_lists blue four)) (sym (eight_lists others eight)) ∙ e in
    let none : (row : List ℕ) → slice_index row 4 ≡ 0 → bits_set (slice_index row 4) ≡ 0 = λ row z. bits_of_none (slice_index row 4) z in
    ap₂ (λ (xs ys : List (List ℕ)). sum_by foreign_of xs + sum_by foreign_of ys) (four_lists blue four) (eight_lists others eight)
    ∙ omega (
      arith,
      none (get_or blue 0 []) (omega (arith, all)),
      none (get_or blue 1 []) (omega (arith, all)),
      none (get_or blue 2 []) (omega (arith, all)),
      none (get_or blue 3 []) (omega (arith, all)),
      none (get_or others 0 []) (omega (arith, all)),
      none (get_or others 1 []) (omega (arith, all)),
      none (get_or others 2 []) (omega (arith, all)),
      none (get_or others 3 []) (omega (arith, all)),
      none (get_or others 4 []) (omega (arith, all)),
      none (get_or others 5 []) (omega (arith, all)),
      none (get_or others 6 []) (omega (arith, all)),
      none (get_or others 7 []) (omega (arith, all)),
    )

-- The sum of eight spread codes.

-- the bits of eight numbers at one place, as a byte
unfoldable pub sum_of : (ℕ → ℕ) → ℕ
sum_of x = x 0 + 2 * x 1 + 4 * x 2 + 8 * x 3 + 16 * x 4 + 32 * x 5 + 64 * x 6 + 128 * x 7

sum_below : (x : ℕ → ℕ) → ((k : ℕ) → x k < 2) → sum_of x < 256
unfolding sum_of
sum_below x h = omega (arith, h 0, h 1, h 2, h 3, h 4, h 5, h 6, h 7)

bit_of_sum : (x : ℕ → ℕ) → ((k : ℕ) → x k < 2) → (k : ℕ) → k < 8 → bit_at (sum_of x) k ≡ x k
unfolding sum_of
bit_of_sum x h =
    each_eight (λ k. bit_at (sum_of x) k ≡ x k)
    (omega (arith, h 0, h 1, h 2, h 3, h 4, h 5, h 6, h 7)) (omega (arith, h 0, h 1, h 2, h 3, h 4, h 5, h 6, h 7))
    (omega (arith, h 0, h 1, h 2, h 3, h 4, h 5, h 6, h 7)) (omega (arith, h 0, h 1, h 2, h 3, h 4, h 5, h 6, h 7))
    (omega (arith, h 0, h 1, h 2, h 3, h 4, h 5, h 6, h 7)) (omega (arith, h 0, h 1, h 2, h 3, h 4, h 5, h 6, h 7))
    (omega (arith, h 0, h 1, h 2, h 3, h 4, h 5, h 6, h 7)) (omega (arith, h 0, h 1, h 2, h 3, h 4, h 5, h 6, h 7))

spread_sum : (c : ℕ → ℕ) → sum_of (λ k. spread_of (c k))
    ≡ sum_of (λ k. bit_at (c k) 0) + 256 * sum_of (λ k. bit_at (c k) 1) + 65536 * sum_of (λ k. bit_at (c k) 2) + 16777216 * sum_of (λ k. bit_at (c k) 3) + 4294967296 * sum_of (λ k. bit_at (c k) 4)
unfolding sum_of spread_of
spread_sum c = omega arith

-- byte b of a number of five bytes
byte_at : (n : ℕ) (p : ℕ → ℕ) → n ≡ p 0 + 256 * p 1 + 65536 * p 2 + 16777216 * p 3 + 4294967296 * p 4 → ((i : ℕ) → p i < 256) → (b : ℕ) → b < 5
    → slice_index (n % 256 ∷ n / 256 % 256 ∷ n / 65536 % 256 ∷ n / 16777216 % 256 ∷ n / 4294967296 % 256 ∷ n / 1099511627776 % 256 ∷ n / 281474976710656 % 256 ∷ n / 72057594037927936 % 256 ∷ []) b ≡ p b
byte_at n p e h zero lt = omega (arith, e, h 0)
byte_at n p e h (suc zero) lt = omega (arith, e, h 0, h 1)
byte_at n p e h (suc (suc zero)) lt = omega (arith, e, h 0, h 1, h 2)
byte_at n p e h (suc (suc (suc zero))) lt = omega (arith, e, h 0, h 1, h 2, h 3)
byte_at n p e h (suc (suc (suc (suc zero)))) lt = omega (arith, e, h 0, h 1, h 2, h 3, h 4)
byte_at n p e h (suc (suc (suc (suc (suc b))))) lt = absurd (omega arith)

pub has_codes : (bytes : List ℕ) (n : ℕ) (c : ℕ → ℕ)
    → bytes ≡ n % 256 ∷ n / 256 % 256 ∷ n / 65536 % 256 ∷ n / 16777216 % 256 ∷ n / 4294967296 % 256 ∷ n / 1099511627776 % 256 ∷ n / 281474976710656 % 256 ∷ n / 72057594037927936 % 256 ∷ []
    → n ≡ sum_of (λ k. spread_of (c k)) → HasCodes bytes c
has_codes bytes n c e sum = λ b k lb lk.
    let p : ℕ → ℕ = λ i. sum_of (λ j. bit_at (c j) i) in
    ap (λ (ys : List ℕ). bit_at (slice_index ys b) k) e
    ∙ ap (λ m. bit_at m k) (byte_at n p (sum ∙ spread_sum c) (λ i. sum_below (λ j. bit_at (c j) i) (λ j. bit_at-lt (c j) i)) b lb)
    ∙ bit_of_sum (λ j. bit_at (c j) b) (λ j. bit_at-lt (c j) b) k lk

-- how many bits of a byte are 1
counts_set : ℕ → Bool
counts_set n = count_ones n == bits_set n

all_set : passes_below 256 counts_set ≡ true
unfolding passes_below counts_set bits_set lib.Count.ones
all_set = refl

pub count_of_set : (n : ℕ) → n < 256 → count_ones n ≡ bits_set n
unfolding counts_set
count_of_set n lt = eqb-true _ _ (passes_at 256 counts_set n all_set lt)
