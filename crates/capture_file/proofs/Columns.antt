-- Three rows of characters, and their columns.
use Rattle.std.proofs.Common.{◌≡◌, ℕ, ◌/◌, ◌%◌, ◌<◌, Bool, List, [], ◌∷◌, ◌++◌, length, map, refl, ap, ap₂, ◌∙◌, sym, arith}
use Rattle.std.specs.Prelude.{All}
use Rattle.tmds_word.specs.Bits.{word_bits, row_bits, bytes_bits}
use Rattle.tmds_word.proofs.Characters.{words_of-push, words_of-more, words_of-bytes, length-words_of}
use Rattle.capture_file.specs.Lanes.{Collected}
use Rattle.tmds_word.specs.Words.{words_of, all_words, columns_of, packed_columns}

-- the columns of three lists of characters

pub columns_of-push : (bs gs rs : List ℕ) (b g r : ℕ) → length gs ≡ length bs → length rs ≡ length bs
    → columns_of (bs ++ b ∷ []) (gs ++ g ∷ []) (rs ++ r ∷ []) ≡ columns_of bs gs rs ++ record { blue = b; green = g; red = r } ∷ []
unfolding columns_of
columns_of-push [] [] [] b g r e f = refl
columns_of-push [] [] (z ∷ rs) b g r e f = absurd (omega arith)
columns_of-push [] (y ∷ gs) rs b g r e f = absurd (omega arith)
columns_of-push (x ∷ bs) [] rs b g r e f = absurd (omega arith)
columns_of-push (x ∷ bs) (y ∷ gs) [] b g r e f = absurd (omega arith)
columns_of-push (x ∷ bs) (y ∷ gs) (z ∷ rs) b g r e f = ap (λ cs. record { blue = x; green = y; red = z } ∷ cs) (columns_of-push bs gs rs b g r (omega arith) (omega arith))

-- the three lanes of columns
pub lanes_of_columns : (bs gs rs : List ℕ) → length gs ≡ length bs → length rs ≡ length bs
    → record { blue : map (λ c. c.blue) (columns_of bs gs rs) ≡ bs; green : map (λ c. c.green) (columns_of bs gs rs) ≡ gs; red : map (λ c. c.red) (columns_of bs gs rs) ≡ rs; count : length (columns_of bs gs rs) ≡ length bs }
unfolding columns_of
lanes_of_columns [] [] [] e f = record { blue = refl; green = refl; red = refl; count = refl }
lanes_of_columns [] [] (z ∷ rs) e f = absurd (omega arith)
lanes_of_columns [] (y ∷ gs) rs e f = absurd (omega arith)
lanes_of_columns (x ∷ bs) [] rs e f = absurd (omega arith)
lanes_of_columns (x ∷ bs) (y ∷ gs) [] e f = absurd (omega arith)
lanes_of_columns (x ∷ bs) (y ∷ gs) (z ∷ rs) e f = grind (arith, lanes_of_columns bs gs rs)

-- what is seen of three rows
abbrev pub seen : List Bool → List Bool → List Bool → ℕ → Collected
seen blue green red refusals = record { columns = columns_of (all_words blue) (all_words green) (all_words red); refusals = refusals }

pub no_lanes : (blue green red : List Bool) → blue ≡ [] → green ≡ [] → red ≡ [] → seen blue green red 0 ≡ record { columns = []; refusals = 0 }
unfolding columns_of all_words words_of
no_lanes blue green red b g r = ap (λ xs. seen xs green red 0) b ∙ ap₂ (λ xs ys. seen [] xs ys 0) g r

pub columns-push : (blue green red : List Bool) (b g r : ℕ) → length blue % 10 ≡ 0 → length green ≡ length blue → length red ≡ length blue → b < 1024 → g < 1024 → r < 1024
    → columns_of (all_words (blue ++ word_bits b)) (all_words (green ++ word_bits g)) (all_words (red ++ word_bits r))
    ≡ columns_of (all_words blue) (all_words green) (all_words red) ++ record { blue = b; green = g; red = r } ∷ []
columns-push blue green red b g r whole e f lb lg lr = grind (arith, length-words_of, words_of-push, columns_of-push)

pub count_of_columns : (blue green red : List Bool) → length green ≡ length blue → length red ≡ length blue
    → length (columns_of (all_words blue) (all_words green) (all_words red)) ≡ length blue / 10
count_of_columns blue green red e f =
    let counts : (row : List Bool) → length row ≡ length blue → length (all_words row) ≡ length (all_words blue) =
    λ row same. length-words_of row ∙ ap (λ n. n / 10) same ∙ sym (length-words_of blue) in
    (lanes_of_columns (all_words blue) (all_words green) (all_words red) (counts green e) (counts red f)).count ∙ length-words_of blue

-- many characters more

pub columns_of-more : (bs gs rs cs hs ss : List ℕ) → length gs ≡ length bs → length rs ≡ length bs
    → columns_of (bs ++ cs) (gs ++ hs) (rs ++ ss) ≡ columns_of bs gs rs ++ columns_of cs hs ss
unfolding columns_of
columns_of-more [] [] [] cs hs ss e f = refl
columns_of-more [] [] (z ∷ rs) cs hs ss e f = absurd (omega arith)
columns_of-more [] (y ∷ gs) rs cs hs ss e f = absurd (omega arith)
columns_of-more (x ∷ bs) [] rs cs hs ss e f = absurd (omega arith)
columns_of-more (x ∷ bs) (y ∷ gs) [] cs hs ss e f = absurd (omega arith)
columns_of-more (x ∷ bs) (y ∷ gs) (z ∷ rs) cs hs ss e f = ap (λ ks. record { blue = x; green = y; red = z } ∷ ks) (columns_of-more bs gs rs cs hs ss (omega arith) (omega arith))

pub columns-more : (blue green red : List Bool) (bs gs rs : List ℕ) → length blue % 10 ≡ 0 → length green ≡ length blue → length red ≡ length blue
    → All (λ w. w < 1024) bs → All (λ w. w < 1024) gs → All (λ w. w < 1024) rs
    → columns_of (all_words (blue ++ row_bits bs)) (all_words (green ++ row_bits gs)) (all_words (red ++ row_bits rs))
    ≡ columns_of (all_words blue) (all_words green) (all_words red) ++ columns_of bs gs rs
columns-more blue green red bs gs rs whole e f lb lg lr = grind (arith, length-words_of, words_of-more, columns_of-more)

-- the columns of packed bytes after those of rows
pub columns-packed : (blue green red : List Bool) (bs gs rs : List ℕ) → length blue % 10 ≡ 0 → length green ≡ length blue → length red ≡ length blue
    → length bs % 5 ≡ 0 → length gs ≡ length bs → length rs ≡ length bs
    → columns_of (all_words (blue ++ bytes_bits bs)) (all_words (green ++ bytes_bits gs)) (all_words (red ++ bytes_bits rs))
    ≡ columns_of (all_words blue) (all_words green) (all_words red) ++ packed_columns bs gs rs
columns-packed blue green red bs gs rs whole e f fives same_green same_red = grind (arith, length-words_of, words_of-bytes, columns_of-more)
