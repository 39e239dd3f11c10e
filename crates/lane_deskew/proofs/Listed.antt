-- The list of the columns of three lanes, place by place.
use Rattle.std.proofs.Common.{arith, ◌≡◌, ℕ, suc, zero, Bool, List, [], ◌∷◌, refl, sym, Option, None, slice_get}
use Rattle.lane_align.proofs.Words.{word_from}
use Rattle.lane_deskew.specs.Aligned.{column_from, aligned_column, aligned_columns}
use Rattle.tmds_word.specs.Words.{columns_of}

none_here : (b r : Option ℕ) → column_from b None r ≡ None
none_here b r = grind arith

none_there : (b g : Option ℕ) → column_from b g None ≡ None
none_there b g = grind arith

-- the column at a place is that of the characters at it
column_of_words : (bs gs rs : List ℕ) (j : ℕ) → slice_get (columns_of bs gs rs) j ≡ column_from (slice_get bs j) (slice_get gs j) (slice_get rs j)
unfolding columns_of
column_of_words [] gs rs j = refl
column_of_words (b ∷ bs) [] rs zero = refl
column_of_words (b ∷ bs) [] rs (suc j) = sym (none_here (slice_get bs j) (slice_get rs (suc j)))
column_of_words (b ∷ bs) (g ∷ gs) [] zero = refl
column_of_words (b ∷ bs) (g ∷ gs) [] (suc j) = sym (none_there (slice_get bs j) (slice_get gs j))
column_of_words (b ∷ bs) (g ∷ gs) (r ∷ rs) zero = refl
column_of_words (b ∷ bs) (g ∷ gs) (r ∷ rs) (suc j) = column_of_words bs gs rs j

pub columns_listed : (xs ys zs : List Bool) (d e f j : ℕ) → slice_get (aligned_columns xs ys zs d e f) j ≡ aligned_column xs ys zs d e f j
unfolding aligned_columns aligned_column
columns_listed xs ys zs d e f j = grind (arith, word_from, column_of_words)
