-- A raster conforms.
use Rattle.std.proofs.Common.{◌≡◌, ℕ, ◌≤◌, Bool, true, ◌&&◌, List, [], ◌∷◌, ◌++◌, map, length, refl, ap, ap₂, ◌∙◌, arith}
use Rattle.std.specs.Prelude.{nat_lt, nat_le}
use Rattle.std.specs.List.{list_all}
use Rattle.std.proofs.lemmas.Bool.{le-leb, leb-true, eqb-true}
use Rattle.tmds_word.proofs.Below.{and-left, and-right}
use Rattle.island_pack.specs.Periods.{ControlRun, DataIsland, Period, control as control_period, video, island, values_of, has_preamble}
use Rattle.island_pack.specs.Conforming.{is_run, is_control_period, is_video_period, is_data_island, conforms}
use Rattle.island_pack.specs.Runs.{join, longest}
use Rattle.island_pack.proofs.Runs.{values_longest}
use Rattle.source_end.specs.Raster.{Part, column, pixels, packets, gathered}
use Rattle.source_end.proofs.Gathered.{Apart, prepend, prepend_apart, gathered_columns}

abbrev pub Small : List ℕ → Bool
Small vs = list_all (λ v. nat_lt v 64) vs

-- values of a whole control period
abbrev pub enough : List ℕ → Bool
enough vs = Small vs && nat_le 12 (length vs)

-- whether parts conform, after control columns of these values
unfoldable pub conforming : List ℕ → List Part → Bool
conforming vs [] = enough vs
conforming vs (column v ∷ parts) = conforming (vs ++ v ∷ []) parts
conforming vs (pixels bytes ∷ parts) = enough vs && (has_preamble 1 vs && (is_video_period bytes && conforming [] parts))
conforming vs (packets x ∷ parts) = enough vs && (has_preamble 5 vs && (is_data_island x && conforming [] parts))

join_runs : (v : ℕ) (rs : List ControlRun) → nat_lt v 64 ≡ true → list_all is_run rs ≡ true → list_all is_run (join v rs) ≡ true
join_runs v rs h k = grind (arith, le-leb, eqb-true, and-right)

runs_of : (vs : List ℕ) → Small vs ≡ true → list_all is_run (longest vs) ≡ true
unfolding longest
runs_of [] h = refl
runs_of (v ∷ vs) h = join_runs v (longest vs) (and-left (nat_lt v 64) (Small vs) h) (runs_of vs (and-right (nat_lt v 64) (Small vs) h))

period_enough : (vs : List ℕ) → enough vs ≡ true → is_control_period (longest vs) ≡ true
unfolding is_control_period
period_enough vs h =
    ap₂ (λ (a b : Bool). a && b) (runs_of vs (and-left (Small vs) _ h)) (ap (λ (xs : List ℕ). nat_le 12 (length xs)) (values_longest vs) ∙ and-right (Small vs) (nat_le 12 (length vs)) h)

abbrev columns_of : List ℕ → List Part
columns_of vs = map column vs

some : (vs : List ℕ) → enough vs ≡ true → 1 ≤ length vs
some vs h = let k = leb-true 12 (length vs) (and-right (Small vs) _ h) in omega (arith, k)

period_first : (vs : List ℕ) (periods : List Period) → Apart periods → 1 ≤ length vs → prepend vs periods ≡ control_period (longest vs) ∷ periods
period_first [] periods apart le = absurd (omega arith)
period_first (v ∷ vs) periods apart le = prepend_apart v vs periods apart

columns_more : (vs : List ℕ) (v : ℕ) (parts : List Part) → columns_of vs ++ (column v ∷ parts) ≡ columns_of (vs ++ v ∷ []) ++ parts
columns_more [] v parts = refl
columns_more (w ∷ vs) v parts = ap (λ (ps : List Part). column w ∷ ps) (columns_more vs v parts)

preamble_longest : (bits : ℕ) (vs : List ℕ) → has_preamble bits (values_of (longest vs)) ≡ has_preamble bits vs
preamble_longest bits vs = ap (has_preamble bits) (values_longest vs)

island_period : (vs : List ℕ) (x : DataIsland) (rest : List Period) → enough vs ≡ true → has_preamble 5 vs ≡ true → is_data_island x ≡ true → conforms rest ≡ true → conforms (control_period (longest vs) ∷ (island x ∷ rest)) ≡ true
unfolding conforms
island_period vs x rest h p v c =
    ap₂ (λ (a b : Bool). a && (b && (is_data_island x && conforms rest))) (period_enough vs h) (preamble_longest 5 vs ∙ p) ∙ ap₂ (λ (a b : Bool). a && b) v c

-- parts that conform make periods that do
pub gathered_conforms : (parts : List Part) (vs : List ℕ) → conforming vs parts ≡ true → conforms (gathered (columns_of vs ++ parts)) ≡ true
unfolding conforming gathered conforms
gathered_conforms [] vs h = ap conforms (gathered_columns vs [] ∙ period_first vs [] (λ v. refl) (some vs h)) ∙ period_enough vs h
gathered_conforms (column v ∷ parts) vs h = ap (λ (ps : List Part). conforms (gathered ps)) (columns_more vs v parts) ∙ gathered_conforms parts (vs ++ v ∷ []) h
gathered_conforms (pixels bytes ∷ parts) vs h =
    let e = and-left (enough vs) _ h in
    let k = and-right (enough vs) _ h in
    let l = and-right (has_preamble 1 vs) _ k in
    ap conforms (gathered_columns vs (pixels bytes ∷ parts) ∙ period_first vs (video bytes ∷ gathered parts) (λ v. refl) (some vs e))
    ∙ ap₂ (λ (a b : Bool). a && (b && (is_video_period bytes && conforms (gathered parts)))) (period_enough vs e) (preamble_longest 1 vs ∙ and-left (has_preamble 1 vs) _ k)
    ∙ ap₂ (λ (a b : Bool). a && b) (and-left (is_video_period bytes) _ l) (gathered_conforms parts [] (and-right (is_video_period bytes) _ l))
gathered_conforms (packets x ∷ parts) vs h =
    let e = and-left (enough vs) _ h in
    let k = and-right (enough vs) _ h in
    let l = and-right (has_preamble 5 vs) _ k in
    ap conforms (gathered_columns vs (packets x ∷ parts) ∙ period_first vs (island x ∷ gathered parts) (λ v. refl) (some vs e))
    ∙ island_period vs x (gathered parts) e (and-left (has_preamble 5 vs) _ k) (and-left (is_data_island x) _ l) (gathered_conforms parts [] (and-right (is_data_island x) _ l))
