-- What a control period and a line are, and how many columns periods take.
use Rattle.std.proofs.Common.{◌≡◌, ℕ, ◌+◌, ◌-◌, ◌≤◌, Bool, true, false, ◌&&◌, List, [], ◌∷◌, ◌++◌, length, refl, ap, sym, ◌∙◌, arith}
use Rattle.std.specs.Prelude.{nat_le}
use Rattle.std.specs.List.{list_all}
use Rattle.std.proofs.lemmas.Bool.{leb-true}
use Rattle.island_pack.specs.Periods.{ControlRun, Period, control, video, values_of, period_columns, columns_of}
use Rattle.island_pack.specs.Conforming.{is_run, is_control_period, is_video_period}
use Rattle.island_pack.specs.declared.ranges.TheConstants.{COLUMN_LIMIT}
use Rattle.source_end.specs.Kept.{capped, is_run_in_range, are_pixels}
use Rattle.source_end.specs.Refusals.{is_in_range}

pub left : (a b : Bool) → (a && b) ≡ true → a ≡ true
left true b h = refl
left false b h = absurd cc

pub right : (a b : Bool) → (a && b) ≡ true → b ≡ true
right a b h = grind arith

pub both : (a b : Bool) → a ≡ true → b ≡ true → (a && b) ≡ true
both a b h k = grind arith

runs_in_range : (runs : List ControlRun) → list_all is_run_in_range runs ≡ true → list_all is_run runs ≡ true
unfolding is_run_in_range
runs_in_range [] h = refl
runs_in_range (r ∷ runs) h = grind (arith, both, left, right, runs_in_range runs)

pub control_in_range : (runs : List ControlRun) → is_in_range (control runs) ≡ true → list_all is_run runs ≡ true
unfolding is_in_range is_run_in_range
control_in_range runs h = runs_in_range runs h

pub video_in_range : (bytes : List ℕ) → is_in_range (video bytes) ≡ true → are_pixels bytes ≡ true → is_video_period bytes ≡ true
unfolding is_in_range is_video_period
video_in_range bytes h k = grind (arith, both, left, right)

pub period_is : (runs : List ControlRun) → list_all is_run runs ≡ true → nat_le 12 (length (values_of runs)) ≡ true → is_control_period runs ≡ true
unfolding is_control_period
period_is runs h k = both (list_all is_run runs) (nat_le 12 (length (values_of runs))) h k

pub columns_of-append : (periods others : List Period) → columns_of (periods ++ others) ≡ columns_of periods + columns_of others
unfolding columns_of
columns_of-append [] others = omega arith
columns_of-append (q ∷ ps) others = ap (λ n. period_columns q + n) (columns_of-append ps others) ∙ omega arith

pub columns_of-more : (periods : List Period) (p : Period) → columns_of (periods ++ p ∷ []) ≡ columns_of periods + period_columns p
unfolding columns_of
columns_of-more periods p = columns_of-append periods (p ∷ []) ∙ omega arith

-- no period, and one more before others
pub no_columns : columns_of [] ≡ 0
unfolding columns_of
no_columns = refl

pub more_columns : (p : Period) (ps : List Period) → columns_of (p ∷ ps) ≡ period_columns p + columns_of ps
unfolding columns_of
more_columns p ps = refl

pub capped_room : (sum n m : ℕ) → n ≡ capped m → nat_le (sum + n) COLUMN_LIMIT ≡ nat_le (sum + m) COLUMN_LIMIT
capped_room sum n m e = grind arith

pub same_sum : (sum n m : ℕ) → n ≡ capped m → n ≤ COLUMN_LIMIT - sum → sum + n ≡ sum + m
same_sum sum n m e fits = omega arith

-- what the test on the columns says
pub room_left : (sum n : ℕ) (fits : Bool) → fits ≡ nat_le (sum + n) COLUMN_LIMIT → fits ≡ true → n ≤ COLUMN_LIMIT - sum
room_left sum n fits e t = let le : sum + n ≤ COLUMN_LIMIT = leb-true (sum + n) COLUMN_LIMIT (sym e ∙ t) in omega arith
