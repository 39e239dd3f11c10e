-- Columns of three lanes' characters, one column more and all of them.
use Rattle.std.proofs.Common.{◌≡◌, ℕ, suc, zero, ◌+◌, ◌<◌, List, [], ◌∷◌, ◌++◌, length, take, get_or, refl, ap, append_assoc, arith}
use Rattle.tmds_word.specs.Column.{Column, column_of}
use Rattle.tmds_word.specs.Words.{columns_of}

pub columns_more : (bs gs rs : List ℕ) (i x y z : ℕ) → length gs ≡ length bs → length rs ≡ length bs → i < length bs
    → take (suc i) (columns_of bs gs rs) ≡ take i (columns_of bs gs rs) ++ column_of (get_or bs i x ∷ get_or gs i y ∷ get_or rs i z ∷ []) ∷ []
unfolding columns_of
columns_more [] gs rs i x y z e f lt = absurd (omega arith)
columns_more (b ∷ bs) [] rs i x y z e f lt = absurd (omega arith)
columns_more (b ∷ bs) (g ∷ gs) [] i x y z e f lt = absurd (omega arith)
columns_more (b ∷ bs) (g ∷ gs) (r ∷ rs) zero x y z e f lt = refl
columns_more (b ∷ bs) (g ∷ gs) (r ∷ rs) (suc i) x y z e f lt = ap (λ cs. record { blue = b; green = g; red = r } ∷ cs) (columns_more bs gs rs i x y z (omega arith) (omega arith) (omega arith))

pub columns_all : (bs gs rs : List ℕ) → take (length bs) (columns_of bs gs rs) ≡ columns_of bs gs rs
unfolding columns_of
columns_all [] gs rs = refl
columns_all (b ∷ bs) [] rs = refl
columns_all (b ∷ bs) (g ∷ gs) [] = refl
columns_all (b ∷ bs) (g ∷ gs) (r ∷ rs) = ap (λ cs. record { blue = b; green = g; red = r } ∷ cs) (columns_all bs gs rs)

pub column_after : (bs gs rs : List ℕ) (old was now : List Column) (i b g r x y z : ℕ) → length gs ≡ length bs → length rs ≡ length bs → i < length bs
    → was ≡ old ++ take i (columns_of bs gs rs) → now ≡ was ++ column_of (b ∷ g ∷ r ∷ []) ∷ [] → b ≡ get_or bs i x → g ≡ get_or gs i y → r ≡ get_or rs i z
    → now ≡ old ++ take (i + 1) (columns_of bs gs rs)
column_after bs gs rs old was now i b g r x y z e f lt before after eb eg er = grind (arith, append_assoc, columns_more)
