-- Where the control periods of a stream end.
use Rattle.std.proofs.Common.{◌≡◌, ℕ, ◌+◌, ◌-◌, ◌/◌, ◌%◌, ◌<◌, ◌≤◌, true, ◌==◌, List, [], ◌∷◌, ◌++◌, length, get_or, replicate, ap, ◌∙◌, sym, subst, arith, inl, inr, ◌⊎◌, length-append}
use Rattle.std.specs.List.{list_all}
use Rattle.std.proofs.lemmas.Bool.{cases_lt, leb-true}
use Rattle.std.proofs.lemmas.List.{get_or_append_left, get_or-append_right, get_or-replicate, length-replicate, get_or_past}
use Rattle.tmds_word.proofs.Below.{and-left, and-right}
use Rattle.island_pack.specs.Periods.{ControlRun, DataIsland, Period, control, video, island, values_of, has_preamble}
use Rattle.island_pack.specs.Conforming.{is_run, is_control_period, are_bytes, is_video_period, is_packet, is_data_island, conforms, IsConforming}
use Rattle.island_pack.specs.Kinds.{Kind, control_column, second_guard, IsPayload, guard_pair, kinds_in, kinds_of, kind_at, EndsAt}
use Rattle.link_laws.specs.Alternating.{IsMiddle, built, IsAlternating, last, more}

no_control_of : (k : Kind) → (k ≡ control_column → ⊥) → (n i : ℕ) → get_or (replicate n k) i second_guard ≡ control_column → ⊥
no_control_of k apart n i h = grind (arith, cases_lt, get_or-replicate, length-replicate, get_or_past)

no_guard_control : (i : ℕ) → get_or guard_pair i second_guard ≡ control_column → ⊥
no_guard_control i h = grind arith

no_control_both : (xs ys : List Kind) → ((i : ℕ) → get_or xs i second_guard ≡ control_column → ⊥) → ((i : ℕ) → get_or ys i second_guard ≡ control_column → ⊥) → (i : ℕ) → get_or (xs ++ ys) i second_guard ≡ control_column → ⊥
no_control_both xs ys f g i h = grind (arith, cases_lt, get_or_append_left, get_or-append_right)

-- a video data period of some pixels
pub middle_video : (bytes : List ℕ) → 1 ≤ length bytes / 3 → IsMiddle (kinds_in (video bytes))
unfolding kinds_in
middle_video bytes h = grind (arith, no_control_both, no_guard_control, no_control_of, length-replicate)

-- a data island of some packets
pub middle_island : (x : DataIsland) → 1 ≤ length x.packets → IsMiddle (kinds_in (island x))
unfolding kinds_in
middle_island x h = grind (arith, no_control_both, no_guard_control, no_control_of, length-replicate, length-append)

long_control : (runs : List ControlRun) → is_control_period runs ≡ true → 12 ≤ length (values_of runs)
unfolding is_control_period
long_control runs h = leb-true _ _ (and-right (list_all is_run runs) _ h)

some_pixels : (bytes : List ℕ) → is_video_period bytes ≡ true → 1 ≤ length bytes / 3
unfolding is_video_period
some_pixels bytes h = leb-true _ _ (and-left _ _ (and-right (length bytes % 3 == 0) _ (and-right (are_bytes bytes) _ h)))

some_packets : (x : DataIsland) → is_data_island x ≡ true → 1 ≤ length x.packets
unfolding is_data_island
some_packets x h = leb-true _ _ (and-left _ _ (and-right (list_all is_packet x.packets) _ (and-right _ _ h)))

-- so are the columns of conforming periods
pub alternating : (ps : List Period) → IsConforming ps → IsAlternating (kinds_of ps)
unfolding conforms kinds_of kinds_in
alternating [] h = cc
alternating (video bytes ∷ rest) h = cc
alternating (island x ∷ rest) h = cc
alternating (control runs ∷ []) h = last (length (values_of runs)) (long_control runs h)
alternating (control runs ∷ (control next ∷ rest)) h = cc
alternating (control runs ∷ (video bytes ∷ rest)) h =
    let v = and-right (has_preamble 1 (values_of runs)) _ (and-right (is_control_period runs) _ h) in
    more (length (values_of runs)) (kinds_in (video bytes)) (kinds_of rest) (long_control runs (and-left _ _ h)) (middle_video bytes (some_pixels bytes (and-left _ _ v)))
    (alternating rest (and-right (is_video_period bytes) _ v))
alternating (control runs ∷ (island x ∷ rest)) h =
    let v = and-right (has_preamble 5 (values_of runs)) _ (and-right (is_control_period runs) _ h) in
    more (length (values_of runs)) (kinds_in (island x)) (kinds_of rest) (long_control runs (and-left _ _ h)) (middle_island x (some_packets x (and-left _ _ v)))
    (alternating rest (and-right (is_data_island x) _ v))

-- a control column is in the first period, or in the rest
record Later (mid rest : List Kind) (n i : ℕ) : Type 0 where
  at : ℕ
  place : i ≡ n + length mid + at
  kind : kind_at rest at ≡ control_column

pub in_first : (n : ℕ) (mid rest : List Kind) (i : ℕ) → i < n → kind_at (built n mid rest) i ≡ control_column
in_first n mid rest i lt =
    let l = length-replicate n control_column in
    get_or_append_left (replicate n control_column) (mid ++ rest) second_guard i (omega arith) ∙ get_or-replicate n i control_column second_guard lt

at_middle : (n : ℕ) (mid rest : List Kind) (i : ℕ) → n ≤ i → i < n + length mid → kind_at (built n mid rest) i ≡ kind_at mid (i - n)
at_middle n mid rest i from to =
    get_or-append_right (replicate n control_column) (mid ++ rest) n i second_guard (length-replicate n control_column) from
    ∙ get_or_append_left mid rest second_guard (i - n) (omega arith)

pub in_rest : (n : ℕ) (mid rest : List Kind) (k : ℕ) → kind_at (built n mid rest) (n + length mid + k) ≡ kind_at rest k
in_rest n mid rest k = grind (arith, get_or-append_right, length-replicate)

where_control : (n : ℕ) (mid rest : List Kind) (i : ℕ) → IsMiddle mid → kind_at (built n mid rest) i ≡ control_column → (i < n) ⊎ Later mid rest n i
where_control n mid rest i m h = elim (cases_lt i n) [
  | inl first ↦ inl first
  | inr past ↦ elim (cases_lt i (n + length mid)) [
    | inl inside ↦ absurd (m.none (i - n) (sym (at_middle n mid rest i past inside) ∙ h))
    | inr later ↦
        let k = i - (n + length mid) in
        let e : i ≡ n + length mid + k = omega arith in
        inr (record { at = k; place = e; kind = sym (in_rest n mid rest k) ∙ ap (λ j. kind_at (built n mid rest) j) (sym e) ∙ h })
  ]
]

pub record EndsLater (mid rest : List Kind) (n i : ℕ) : Type 0 where
  pub at : ℕ
  pub place : i ≡ n + length mid + at
  pub ends : EndsAt rest at

pub where_ends : (n : ℕ) (mid rest : List Kind) (i : ℕ) → IsMiddle mid → EndsAt (built n mid rest) i → (i + 1 ≡ n) ⊎ EndsLater mid rest n i
where_ends n mid rest i m h = elim (where_control n mid rest i m h.here) [
  | inl first ↦ grind (arith, cases_lt, in_first)
  | inr later ↦ grind (arith, in_rest)
]

-- the last control period
pub ends_alone : (n i : ℕ) → EndsAt (replicate n control_column ++ []) i → i + 1 ≡ n
ends_alone n i h = grind (arith, length-replicate, cases_lt, get_or_append_left, get_or-replicate, get_or_past, length-append)

pub ends_late : (kinds : List Kind) → IsAlternating kinds → (i : ℕ) → EndsAt kinds i → 11 ≤ i
ends_late _ (last n long) i h = let e = ends_alone n i h in omega arith
ends_late _ (more n mid rest long m alternates) i h = elim (where_ends n mid rest i m h) [
  | inl here ↦ omega arith
  | inr later ↦ omega (arith, later.place)
]

pub ends_apart : (kinds : List Kind) → IsAlternating kinds → (i j : ℕ) → EndsAt kinds i → EndsAt kinds j → i < j → i + 15 ≤ j
ends_apart _ (last n long) i j a b lt = let e = ends_alone n i a in let f = ends_alone n j b in omega arith
ends_apart _ (more n mid rest long m alternates) i j a b lt =
    let three = m.long in
    elim (where_ends n mid rest i m a) [
      | inl i_here ↦ elim (where_ends n mid rest j m b) [
        | inl j_here ↦ omega arith
        | inr j_later ↦ let late = ends_late rest alternates j_later.at j_later.ends in omega (arith, j_later.place)
      ]
      | inr i_later ↦ grind (arith, where_ends n mid rest j m b, ends_apart rest alternates)
    ]

-- no payload follows a control word
pub parted : (kinds : List Kind) → IsAlternating kinds → (i : ℕ) → kind_at kinds i ≡ control_column → IsPayload (kind_at kinds (i + 1)) → ⊥
parted _ (last n long) i a b = grind (arith, ends_alone, length-replicate, get_or_past, length-append)
parted _ (more n mid rest long m alternates) i a b =
    let three = m.long in
    let ends : EndsAt (built n mid rest) i = record { here = a; then = λ c. subst IsPayload c b } in
    elim (where_ends n mid rest i m ends) [
      | inl here ↦ grind (arith, at_middle)
      | inr later ↦ grind (arith, in_rest, parted rest alternates)
    ]
