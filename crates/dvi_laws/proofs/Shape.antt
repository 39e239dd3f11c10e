-- The kinds of the columns of a stream without guard bands alternate as those of a link do: the laws of lanes that ask
-- for no more than that hold as they stand.
use Rattle.std.proofs.Common.{◌≡◌, ℕ, suc, zero, ◌+◌, ◌-◌, ◌/◌, ◌≤◌, List, [], ◌∷◌, length, get_or, replicate, arith}
use Rattle.std.proofs.lemmas.List.{length-replicate}
use Rattle.tmds_word.proofs.Below.{and-left, and-right}
use Rattle.island_pack.specs.Periods.{Period, control, video, island, values_of}
use Rattle.island_pack.specs.Conforming.{is_control_period, is_video_period}
use Rattle.island_pack.specs.Kinds.{control_column, first_guard, second_guard, pixel_column, EndsAt}
use Rattle.link_laws.specs.Alternating.{IsMiddle, IsAlternating, last, more}
use Rattle.link_laws.proofs.Shapes.{ends_apart as kinds_apart}
use Rattle.link_laws.proofs.Conformed.{is_control_of}
use Rattle.source_end.specs.DviPeriods.{dvi_conforms, IsDviConforming, dvi_kinds_in, dvi_kinds, HasThree}

no_control : (n i : ℕ) → get_or (replicate n pixel_column) i second_guard ≡ control_column → ⊥
no_control zero i h = cc
no_control (suc n) zero h = cc
no_control (suc n) (suc i) h = no_control n i h

first_then : (n i : ℕ) → get_or (first_guard ∷ replicate n pixel_column) i second_guard ≡ control_column → ⊥
first_then n i h = grind (arith, no_control)

pub video_size : (bytes : List ℕ) → 1 ≤ length bytes / 3 → length (dvi_kinds_in (video bytes)) ≡ length bytes / 3
unfolding dvi_kinds_in
video_size bytes one = let l = length-replicate (length bytes / 3 - 1) pixel_column in omega arith

pub video_middle : (bytes : List ℕ) → 3 ≤ length bytes / 3 → IsMiddle (dvi_kinds_in (video bytes))
unfolding dvi_kinds_in
video_middle bytes three = grind (arith, first_then, length-replicate)

pub alternating : (ps : List Period) → IsDviConforming ps → HasThree ps → IsAlternating (dvi_kinds ps)
unfolding dvi_conforms dvi_kinds dvi_kinds_in HasThree
alternating [] h t = cc
alternating (video bytes ∷ rest) h t = cc
alternating (island x ∷ rest) h t = cc
alternating (control runs ∷ []) h t = last (length (values_of runs)) (is_control_of runs h).long
alternating (control runs ∷ (control next ∷ rest)) h t = cc
alternating (control runs ∷ (island x ∷ rest)) h t = cc
alternating (control runs ∷ (video bytes ∷ rest)) h t =
    more (length (values_of runs)) (dvi_kinds_in (video bytes)) (dvi_kinds rest) (is_control_of runs (and-left _ _ h)).long (video_middle bytes t.0)
    (alternating rest (and-right (is_video_period bytes) _ (and-right (is_control_period runs) _ h)) t.1)

pub ends_apart : (ps : List Period) → IsDviConforming ps → HasThree ps → (i j : ℕ) → EndsAt (dvi_kinds ps) i → EndsAt (dvi_kinds ps) j → i + 1 ≤ j → i + 15 ≤ j
ends_apart ps h t i j a b lt = kinds_apart (dvi_kinds ps) (alternating ps h t) i j a b (omega arith)
