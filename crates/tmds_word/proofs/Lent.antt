-- The columns of three lanes that are lent: how many, some of them, one of them, and their lanes.
use Rattle.std.proofs.Common.{◌≡◌, ℕ, suc, zero, ◌<◌, List, [], ◌∷◌, length, take, drop, get_or, refl, ap, sym, ◌∙◌, arith}
use Rattle.std.specs.Prelude.{Some, slice_get}
use Rattle.tmds_word.specs.Column.{Column, column_of, blues, greens, reds}
use Rattle.tmds_word.specs.Words.{columns_of}
use Rattle.tmds_word.specs.Lent.{columns_in}
use Rattle.tmds_word.specs.declared.columns.Columns.{Columns}

none_second : (xs zs : List ℕ) → columns_of xs [] zs ≡ []
unfolding columns_of
none_second [] zs = refl
none_second (x ∷ xs) zs = refl

none_third : (xs ys : List ℕ) → columns_of xs ys [] ≡ []
unfolding columns_of
none_third [] ys = refl
none_third (x ∷ xs) [] = refl
none_third (x ∷ xs) (y ∷ ys) = refl

-- without the first ones
pub columns_drop : (t : ℕ) (xs ys zs : List ℕ) → drop t (columns_of xs ys zs) ≡ columns_of (drop t xs) (drop t ys) (drop t zs)
unfolding columns_of
columns_drop zero xs ys zs = refl
columns_drop (suc t) [] ys zs = refl
columns_drop (suc t) (x ∷ xs) [] zs = sym (none_second (drop t xs) (drop (suc t) zs))
columns_drop (suc t) (x ∷ xs) (y ∷ ys) [] = sym (none_third (drop t xs) (drop t ys))
columns_drop (suc t) (x ∷ xs) (y ∷ ys) (z ∷ zs) = columns_drop t xs ys zs

-- the first ones
pub columns_first : (n : ℕ) (xs ys zs : List ℕ) → take n (columns_of xs ys zs) ≡ columns_of (take n xs) (take n ys) (take n zs)
unfolding columns_of
columns_first zero xs ys zs = refl
columns_first (suc n) [] ys zs = refl
columns_first (suc n) (x ∷ xs) [] zs = refl
columns_first (suc n) (x ∷ xs) (y ∷ ys) [] = refl
columns_first (suc n) (x ∷ xs) (y ∷ ys) (z ∷ zs) = ap (λ (cs : List Column). record { blue = x; green = y; red = z } ∷ cs) (columns_first n xs ys zs)

-- the lanes of columns
pub record AreLanes (cs : List Column) (bs gs rs : List ℕ) : Type 0 where
  pub long : length cs ≡ length bs
  pub blue : blues cs ≡ bs
  pub green : greens cs ≡ gs
  pub red : reds cs ≡ rs

pub lanes_of : (bs gs rs : List ℕ) → length gs ≡ length bs → length rs ≡ length bs → AreLanes (columns_of bs gs rs) bs gs rs
unfolding columns_of
lanes_of [] [] [] g r = record { long = refl; blue = refl; green = refl; red = refl }
lanes_of [] (h ∷ gs) rs g r = absurd (omega arith)
lanes_of [] [] (s ∷ rs) g r = absurd (omega arith)
lanes_of (b ∷ bs) [] rs g r = absurd (omega arith)
lanes_of (b ∷ bs) (h ∷ gs) [] g r = absurd (omega arith)
lanes_of (b ∷ bs) (h ∷ gs) (s ∷ rs) g r =
    let rest = lanes_of bs gs rs (omega arith) (omega arith) in
    record { long = ap suc rest.long; blue = ap (λ xs. b ∷ xs) rest.blue; green = ap (λ xs. h ∷ xs) rest.green; red = ap (λ xs. s ∷ xs) rest.red }

column_at : (bs gs rs : List ℕ) (i : ℕ) → length gs ≡ length bs → length rs ≡ length bs → i < length bs
    → slice_get (columns_of bs gs rs) i ≡ Some (column_of (get_or bs i 0 ∷ get_or gs i 0 ∷ get_or rs i 0 ∷ []))
unfolding columns_of
column_at [] gs rs i g r lt = absurd (omega arith)
column_at (b ∷ bs) [] rs i g r lt = absurd (omega arith)
column_at (b ∷ bs) (h ∷ gs) [] i g r lt = absurd (omega arith)
column_at (b ∷ bs) (h ∷ gs) (s ∷ rs) zero g r lt = refl
column_at (b ∷ bs) (h ∷ gs) (s ∷ rs) (suc i) g r lt = column_at bs gs rs i (omega arith) (omega arith) (omega arith)

-- the column at a place
pub column_here : (bs gs rs : List ℕ) (i b g r : ℕ) → length gs ≡ length bs → length rs ≡ length bs → i < length bs → b ≡ get_or bs i 0 → g ≡ get_or gs i 0 → r ≡ get_or rs i 0
    → slice_get (columns_of bs gs rs) i ≡ Some (column_of (b ∷ g ∷ r ∷ []))
column_here bs gs rs i b g r long_green long_red lt eb eg er = rw (eb, eg, er) (column_at bs gs rs i long_green long_red lt)

-- each lane has as many characters as there are columns
module _ (lent : Columns) where
  pub lanes : AreLanes (columns_in lent) lent.blue.now lent.green.now lent.red.now
  unfolding columns_in
  lanes = lanes_of lent.blue.now lent.green.now lent.red.now lent.long_green lent.long_red

  pub lent_blue : length lent.blue.now ≡ length (columns_in lent)
  lent_blue = sym lanes.long

  pub lent_green : length lent.green.now ≡ length (columns_in lent)
  lent_green = lent.long_green ∙ lent_blue

  pub lent_red : length lent.red.now ≡ length (columns_in lent)
  lent_red = lent.long_red ∙ lent_blue
