-- After the last pixel of a line a control period begins, which has twelve columns at least.
use Rattle.std.proofs.Common.{◌≡◌, ◌⊎◌, ℕ, ◌+◌, ◌-◌, ◌*◌, ◌/◌, ◌<◌, ◌≤◌, List, [], ◌∷◌, ◌++◌, length, get_or, replicate, ap, ◌∙◌, sym, subst, arith, inl, inr, length-append}
use Rattle.std.proofs.lemmas.Bool.{cases_lt}
use Rattle.std.proofs.lemmas.List.{get_or_append_left, get_or-append_right, get_or-replicate, length-replicate, get_or_past}
use Rattle.tmds_word.proofs.Below.{and-right}
use Rattle.island_pack.specs.Periods.{Period, control, video, island, values_of, has_preamble}
use Rattle.island_pack.specs.Conforming.{is_control_period, is_video_period, is_data_island, conforms, IsConforming}
use Rattle.island_pack.specs.Kinds.{Kind, control_column, second_guard, pixel_column, packet_column, guard_pair, kinds_in, kinds_of, kind_at}
use Rattle.link_laws.specs.Alternating.{built, IsAlternating}
use Rattle.link_laws.proofs.Shapes.{alternating, in_first, in_rest}

-- twelve control columns from a place on
pub record Twelve (kinds : List Kind) (i : ℕ) : Type 0 where
  pub within : i + 12 ≤ length kinds
  pub control : (k : ℕ) → k < 12 → kind_at kinds (i + k) ≡ control_column

begins : (kinds : List Kind) → IsAlternating kinds → Twelve kinds 0
begins kinds h = grind (arith, length-replicate, length-append, get_or_append_left, get_or-replicate, in_first)

-- between two control periods a pixel is followed by a pixel, or is the last column
abbrev Middle : List Kind → Type 0
Middle mid = (j : ℕ) → j < length mid → get_or mid j second_guard ≡ pixel_column → (get_or mid (j + 1) second_guard ≡ pixel_column) ⊎ (j + 1 ≡ length mid)

-- what is to be shown of a stream
abbrev Follows : List Kind → Type 0
Follows kinds = (i : ℕ) → kind_at kinds i ≡ pixel_column → (kind_at kinds (i + 1) ≡ pixel_column → ⊥) → Twelve kinds (i + 1)

no_pixel : control_column ≡ pixel_column → ⊥
no_pixel e = cc

in_middle : (n : ℕ) (mid rest : List Kind) (i : ℕ) → n ≤ i → i < n + length mid → kind_at (built n mid rest) i ≡ get_or mid (i - n) second_guard
in_middle n mid rest i from to =
    get_or-append_right (replicate n control_column) (mid ++ rest) n i second_guard (length-replicate n control_column) from
    ∙ get_or_append_left mid rest second_guard (i - n) (omega arith)

length_built : (n : ℕ) (mid rest : List Kind) → length (built n mid rest) ≡ n + length mid + length rest
length_built n mid rest =
    let l = length-replicate n control_column in
    omega (arith, length-append (replicate n control_column) (mid ++ rest), length-append mid rest)

shifted : (n : ℕ) (mid rest : List Kind) (k : ℕ) → Twelve rest k → Twelve (built n mid rest) (n + length mid + k)
shifted n mid rest k t =
    let l = length_built n mid rest in
    let within = t.within in
    record {
      within = omega arith;
      control = λ j lt. let e : n + length mid + (k + j) ≡ n + length mid + k + j = omega arith in
          ap (kind_at (built n mid rest)) (sym e) ∙ in_rest n mid rest (k + j) ∙ t.control j lt;
    }

one_more : (n : ℕ) (mid rest : List Kind) → Middle mid → Twelve rest 0 → Follows rest → Follows (built n mid rest)
one_more n mid rest m twelve later i pixel then = elim (cases_lt i n) [
  | inl first ↦ absurd (no_pixel (sym (in_first n mid rest i first) ∙ pixel))
  | inr past ↦ elim (cases_lt i (n + length mid)) [
    | inl inside ↦
        let e : i + 1 - n ≡ i - n + 1 = omega arith in
        elim (m (i - n) (omega arith) (sym (in_middle n mid rest i past inside) ∙ pixel)) [
          | inl again ↦ elim (cases_lt (i + 1) (n + length mid)) [
            | inl room ↦ absurd (then (in_middle n mid rest (i + 1) (omega arith) room ∙ ap (λ j. get_or mid j second_guard) e ∙ again))
            | inr none ↦ let f : n + length mid + 0 ≡ i + 1 = omega arith in subst (Twelve (built n mid rest)) f (shifted n mid rest 0 twelve)
          ]
          | inr end ↦ let f : n + length mid + 0 ≡ i + 1 = omega arith in subst (Twelve (built n mid rest)) f (shifted n mid rest 0 twelve)
        ]
    | inr after ↦
        let k = i - (n + length mid) in
        let e : n + length mid + k ≡ i = omega arith in
        let g : n + length mid + (k + 1) ≡ i + 1 = omega arith in
        let here : kind_at rest k ≡ pixel_column = sym (in_rest n mid rest k) ∙ ap (kind_at (built n mid rest)) e ∙ pixel in
        let t = later k here (λ p. then (ap (kind_at (built n mid rest)) (sym g) ∙ in_rest n mid rest (k + 1) ∙ p)) in
        subst (Twelve (built n mid rest)) g (shifted n mid rest (k + 1) t)
  ]
]

-- a video period, and a data island

middle_video : (m : ℕ) → Middle (guard_pair ++ replicate m pixel_column)
middle_video m h k l = grind (arith, length-replicate, cases_lt, get_or-replicate)

not_packet : packet_column ≡ pixel_column → ⊥
not_packet e = cc

not_guard : second_guard ≡ pixel_column → ⊥
not_guard e = cc

guards_none : (j : ℕ) → get_or guard_pair j second_guard ≡ pixel_column → ⊥
guards_none j h = grind arith

island_none : (m j : ℕ) → get_or (guard_pair ++ (replicate m packet_column ++ guard_pair)) j second_guard ≡ pixel_column → ⊥
island_none m j h = grind (arith, length-replicate, cases_lt, not_packet, get_or_append_left, get_or-replicate, guards_none, get_or-append_right)

middle_island : (m : ℕ) → Middle (guard_pair ++ (replicate m packet_column ++ guard_pair))
middle_island m j lt e = absurd (island_none m j e)

control_alone : (n : ℕ) → Follows (replicate n control_column ++ [])
control_alone n i pixel then = grind (arith, length-replicate, cases_lt, no_pixel, get_or_append_left, get_or-replicate, not_guard, get_or_past, length-append)

pub line_ends : (ps : List Period) → IsConforming ps → Follows (kinds_of ps)
unfolding conforms kinds_of kinds_in
line_ends [] h = cc
line_ends (video bytes ∷ rest) h = cc
line_ends (island x ∷ rest) h = cc
line_ends (control runs ∷ []) h = control_alone (length (values_of runs))
line_ends (control runs ∷ (control next ∷ rest)) h = cc
line_ends (control runs ∷ (video bytes ∷ rest)) h =
    let v = and-right (has_preamble 1 (values_of runs)) _ (and-right (is_control_period runs) _ h) in
    let r : IsConforming rest = and-right (is_video_period bytes) _ v in
    one_more (length (values_of runs)) (kinds_in (video bytes)) (kinds_of rest) (middle_video (length bytes / 3)) (begins (kinds_of rest) (alternating rest r)) (line_ends rest r)
line_ends (control runs ∷ (island x ∷ rest)) h =
    let v = and-right (has_preamble 5 (values_of runs)) _ (and-right (is_control_period runs) _ h) in
    let r : IsConforming rest = and-right (is_data_island x) _ v in
    one_more (length (values_of runs)) (kinds_in (island x)) (kinds_of rest) (middle_island (32 * length x.packets)) (begins (kinds_of rest) (alternating rest r)) (line_ends rest r)
