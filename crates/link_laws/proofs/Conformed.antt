-- Conforming periods as data: what may follow control columns of given values.
use Rattle.std.proofs.Common.{arith, ◌≡◌, ℕ, suc, zero, ◌/◌, ◌%◌, ◌<◌, ◌≤◌, true, ◌==◌, List, [], ◌∷◌, length, replicate, refl}
use Rattle.std.specs.Prelude.{nat_lt}
use Rattle.std.specs.List.{list_all}
use Rattle.std.proofs.lemmas.List.Folds.{list_all-append}
use Rattle.std.proofs.lemmas.Bool.{leb-true, ltb-true}
use Rattle.tmds_word.proofs.Below.{and-left, and-right}
use Rattle.island_pack.specs.Periods.{ControlRun, DataIsland, Period, control, video, island, values_of, has_preamble}
use Rattle.island_pack.specs.Conforming.{is_run, is_control_period, are_bytes, is_video_period, is_data_island, conforms, IsConforming}
use Rattle.link_laws.proofs.Rows.{and_both, Small}

pub record IsControl (vs : List ℕ) : Type 0 where
  pub long : 12 ≤ length vs
  pub small : Small vs

pub record IsVideo (bytes : List ℕ) : Type 0 where
  pub small : are_bytes bytes ≡ true
  pub some : 1 ≤ length bytes / 3
  pub few : length bytes / 3 ≤ 4096

pub record IsIsland (x : DataIsland) : Type 0 where
  pub open_first : x.opening.first < 4
  pub open_second : x.opening.second < 4
  pub close_first : x.closing.first < 4
  pub close_second : x.closing.second < 4
  pub some : 1 ≤ length x.packets
  pub few : length x.packets ≤ 18

-- a period that may follow control columns of these values
unfoldable pub IsInner : List ℕ → Period → Type 0
IsInner vs (control runs) = ⊥
IsInner vs (video bytes) = (has_preamble 1 vs ≡ true) × IsVideo bytes
IsInner vs (island x) = (has_preamble 5 vs ≡ true) × IsIsland x

-- periods that may follow control columns of these values
pub data Follows : List ℕ → List Period → Type 0 where
  ends : (vs : List ℕ) → IsControl vs → Follows vs []
  goes_on : (vs : List ℕ) (x : Period) (runs : List ControlRun) (rest : List Period) → IsControl vs → IsInner vs x → Follows (values_of runs) rest → Follows vs (x ∷ (control runs ∷ rest))

unfoldable pub Conforms : List Period → Type 0
Conforms [] = ⊥
Conforms (control runs ∷ rest) = Follows (values_of runs) rest
Conforms (video bytes ∷ rest) = ⊥
Conforms (island x ∷ rest) = ⊥

small_replicate : (n v : ℕ) → nat_lt v 64 ≡ true → Small (replicate n v)
small_replicate zero v h = refl
small_replicate (suc n) v h = and_both _ _ h (small_replicate n v h)

values_small : (runs : List ControlRun) → list_all is_run runs ≡ true → Small (values_of runs)
unfolding values_of
values_small [] h = refl
values_small (r ∷ rs) h = grind (arith, list_all-append, and_both, small_replicate, and-left, and-right, values_small rs)

pub is_control_of : (runs : List ControlRun) → is_control_period runs ≡ true → IsControl (values_of runs)
unfolding is_control_period
is_control_of runs h = record { long = leb-true _ _ (and-right _ _ h); small = values_small runs (and-left _ _ h) }

pub is_video_of : (bytes : List ℕ) → is_video_period bytes ≡ true → IsVideo bytes
unfolding is_video_period
is_video_of bytes h =
    let rest = and-right (length bytes % 3 == 0) _ (and-right (are_bytes bytes) _ h) in
    record { small = and-left _ _ h; some = leb-true _ _ (and-left _ _ rest); few = leb-true _ _ (and-right _ _ rest) }

pub is_island_of : (x : DataIsland) → is_data_island x ≡ true → IsIsland x
unfolding is_data_island
is_island_of x h = grind (arith, and-left, and-right, ltb-true, leb-true)

-- what one control period and the period after it say
inner_follows : (runs : List ControlRun) (x : Period) (rest : List Period) → IsControl (values_of runs) → IsInner (values_of runs) x → Conforms rest → Follows (values_of runs) (x ∷ rest)
unfolding Conforms
inner_follows runs x [] c i h = absurd h
inner_follows runs x (control next ∷ rest) c i h = goes_on (values_of runs) x next rest c i h
inner_follows runs x (video bytes ∷ rest) c i h = absurd h
inner_follows runs x (island y ∷ rest) c i h = absurd h

pub conforming : (ps : List Period) → IsConforming ps → Conforms ps
unfolding conforms Conforms IsInner
conforming [] h = cc
conforming (video bytes ∷ rest) h = cc
conforming (island x ∷ rest) h = cc
conforming (control runs ∷ []) h = ends (values_of runs) (is_control_of runs h)
conforming (control runs ∷ (control next ∷ rest)) h = cc
conforming (control runs ∷ (video bytes ∷ rest)) h = grind (arith, is_control_of, and-left, and-right, inner_follows, is_video_of, conforming rest)
conforming (control runs ∷ (island x ∷ rest)) h = grind (arith, is_control_of, and-left, and-right, inner_follows, is_island_of, conforming rest)

-- the values of control periods are below 64, the bytes of pixels below 256
unfoldable pub HasValues : List Period → Type 0
HasValues [] = Unit {0}
HasValues (control runs ∷ xs) = Small (values_of runs) × HasValues xs
HasValues (video bytes ∷ xs) = (are_bytes bytes ≡ true) × HasValues xs
HasValues (island x ∷ xs) = HasValues xs

inner_values : (vs : List ℕ) (x : Period) (xs : List Period) → IsInner vs x → HasValues xs → HasValues (x ∷ xs)
unfolding HasValues IsInner
inner_values vs x xs h k = grind arith

follows_values : (vs : List ℕ) (tail : List Period) → Follows vs tail → Small vs × HasValues tail
unfolding HasValues
follows_values _ _ (ends vs h) = (h.small, tt)
follows_values _ _ (goes_on vs x runs rest h i f) = (h.small, inner_values vs x (control runs ∷ rest) i (follows_values (values_of runs) rest f))

pub has_values : (ps : List Period) → Conforms ps → HasValues ps
unfolding HasValues Conforms
has_values ps h = grind (arith, follows_values)
