-- The last period, and what the tests of one item after others say of it.
use Rattle.std.proofs.Common.{◌≡◌, ℕ, suc, ◌+◌, ◌-◌, ◌*◌, ◌<◌, ◌&&◌, List, [], ◌∷◌, length, map, refl, ap, sym, ◌∙◌, arith, Option, Some, ◌/◌, min, Result}
use Rattle.std.specs.Result.{OkIff, result_unwrap_or}
use Rattle.source_end.specs.Kept.{capped, is_run_in_range}
use Rattle.std.specs.Prelude.{nat_le}
use Rattle.std.specs.List.{slice_get, list_all}
use Rattle.std.specs.Option.{option_map}
use Rattle.std.proofs.lemmas.Option.{slice_get-map}
use Rattle.island_pack.specs.Periods.{ControlRun, DataIsland, Period, control, video, island, values_of, period_columns}
use Rattle.island_pack.specs.Conforming.{is_data_island}
use Rattle.source_end.specs.declared.item.Item.{Item}
use Rattle.source_end.specs.ItemPeriods.{period_of}
use Rattle.source_end.specs.DviPeriods.{dvi_columns}
use Rattle.source_end.specs.Refusals.{last_period, is_in_range}

last_place : (ps : List Period) → last_period ps ≡ slice_get ps (length ps - 1)
last_place [] = refl
last_place (p ∷ []) = refl
last_place (p ∷ (q ∷ ps)) =
    let here : length (p ∷ (q ∷ ps)) - 1 ≡ suc (length ps) = omega arith in
    let there : length (q ∷ ps) - 1 ≡ length ps = omega arith in
    last_place (q ∷ ps) ∙ ap (slice_get (q ∷ ps)) there ∙ sym (ap (slice_get (p ∷ (q ∷ ps))) here)

length_periods : (items : List Item) → length (map period_of items) ≡ length items
length_periods [] = refl
length_periods (x ∷ items) = ap (λ n. suc n) (length_periods items)

pub last_of : (items : List Item) (found : Option Item) → found ≡ slice_get items (length items - 1) → last_period (map period_of items) ≡ option_map period_of found
last_of items found e =
    last_place (map period_of items) ∙ ap (λ n. slice_get (map period_of items) (n - 1)) (length_periods items) ∙ slice_get-map period_of items (length items - 1) ∙ ap (option_map period_of) (sym e)

pub last_is : (items : List Item) (x y : Item) → Some x ≡ slice_get items (length items - 1) → x ≡ y → last_period (map period_of items) ≡ Some (period_of y)
last_is items x y e same = last_of items (Some x) e ∙ ap (λ i. Some (period_of i)) same

-- Ranges and counts.
pub pixels_in_range : (bytes : List ℕ) (n : ℕ) → n ≡ length bytes / 3 → (nat_le 1 n && nat_le n 4096) ≡ is_in_range (video bytes)
unfolding is_in_range
pixels_in_range bytes n e = ap (λ k. nat_le 1 k && nat_le k 4096) e

pub clamped : {E : Type 0} (r : Result ℕ E) (n : ℕ) → OkIff r (n < 4294967296) n → result_unwrap_or r 4294967295 ≡ min n 4294967295
clamped r n h = grind arith

pub video_columns : (bytes : List ℕ) (n m : ℕ) → n ≡ length bytes / 3 → m ≡ min n 4294967295 → min (m + 2) 4294967295 ≡ capped (period_columns (video bytes))
unfolding period_columns
video_columns bytes n m e is = grind arith

pub island_columns : (x : DataIsland) (n m k : ℕ) → n ≡ length x.packets → m ≡ min n 4294967295 → k ≡ min (m * 32) 4294967295 → min (k + 4) 4294967295 ≡ capped (period_columns (island x))
unfolding period_columns
island_columns x n m k e is times = grind arith

pub control_columns : (runs : List ControlRun) → length (values_of runs) ≡ period_columns (control runs)
unfolding period_columns
control_columns runs = refl

pub runs_in_range : (runs : List ControlRun) → list_all is_run_in_range runs ≡ is_in_range (control runs)
unfolding is_in_range is_run_in_range
runs_in_range runs = refl

pub island_in_range : (x : DataIsland) → is_data_island x ≡ is_in_range (island x)
unfolding is_in_range
island_in_range x = refl

-- The same without guard bands.
pub dvi_video_columns : (bytes : List ℕ) (n : ℕ) → n ≡ length bytes / 3 → min n 4294967295 ≡ capped (dvi_columns (video bytes))
unfolding dvi_columns
dvi_video_columns bytes n e = ap (λ k. capped k) e

pub dvi_island_columns : (x : DataIsland) → 0 ≡ capped (dvi_columns (island x))
unfolding dvi_columns
dvi_island_columns x = refl

pub dvi_control_columns : (runs : List ControlRun) → length (values_of runs) ≡ dvi_columns (control runs)
unfolding dvi_columns
dvi_control_columns runs = refl
