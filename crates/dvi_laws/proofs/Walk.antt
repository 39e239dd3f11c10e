-- What is reported of control columns, a gap, and what follows them, under every rule (the law of joining, once).
use Rattle.std.proofs.Common.{◌≡◌, ℕ, suc, zero, ◌+◌, ◌-◌, ◌<◌, ◌≤◌, true, List, [], ◌∷◌, ◌++◌, length, map, take, refl, ap, sym, ◌∙◌, append_assoc, arith, inl, inr}
use Rattle.std.proofs.lemmas.List.{append-nil, map-append, take-append-le, length-take}
use Rattle.std.proofs.Math.Seq.{take-append-add}
use Rattle.std.proofs.lemmas.Bool.{cases_lt}
use Rattle.tmds_word.specs.Column.{Column}
use Rattle.tmds_word.proofs.Below.{and-left, and-right}
use Rattle.period_grammar.specs.Events.{Event, all_at, event_of}
use Rattle.period_grammar.specs.Cut.{runs, Stretch as Cut, stretch, stretches}
use Rattle.period_grammar.specs.Heard.{in_runs, last_run}
use Rattle.link_laws.specs.Account.{control_row}
use Rattle.link_laws.proofs.Cutting.{AllControl, NoneControl, begins, with_control, cut_control, cut_both, control_reported}
use Rattle.link_laws.proofs.Between.{heads, some, some_cut, begins_heads}
use Rattle.link_laws.proofs.ControlReported.{control_row_reported}
use Rattle.link_laws.proofs.Rows.{and_both}
use Rattle.period_grammar.specs.Gaps.{Gaps, going_by, reported_by, end_by}
use Rattle.period_grammar.proofs.Hearings.{events_at}

-- what is reported of stretches from column j on, with what is reported at the end
abbrev pub walk : Gaps → ℕ → List Cut → List Event
walk g j xs = map event_of (reported_by g j xs) ++ end_by g j xs

none_begins : begins (stretches []) ≡ true
unfolding stretches
none_begins = refl

none_left : (x : Cut) → x ∷ stretches [] ≡ x ∷ []
unfolding stretches
none_left x = refl

pub walk_none : (g : Gaps) (j : ℕ) → walk g j (stretches []) ≡ []
unfolding stretches
walk_none g j = refl

-- control columns alone
pub walk_control : (g : Gaps) (j : ℕ) (control : List Column) → AllControl control → walk g j (stretches control) ≡ control_row j control
unfolding stretches runs
walk_control g j control all =
    ap (λ cs. walk g j (stretches cs)) (sym (append-nil control)) ∙ ap (walk g j) (cut_control control [] all) ∙ by control ∙ control_row_reported j control
  where
    by : (cs : List Column) → walk g j (with_control cs (stretches [])) ≡ control_reported j cs
    by [] = refl
    by (c ∷ cs) = refl

-- what a rule reports of a gap while it goes on
abbrev pub gap_events : Gaps → ℕ → List Column → List Column → List Event
gap_events g b control gap = map event_of (g.going b control gap)

going_events : (g : Gaps) (j : ℕ) (control : List Column) (x : Column) (gap : List Column)
    → map event_of (going_by g j (stretch control (x ∷ gap))) ≡ control_row j control ++ gap_events g (j + length control) control (x ∷ gap)
going_events g j control x gap =
    let b = j + length control in
    let before = in_runs j (runs control) in
    let last = all_at b (last_run (runs control)) in
    let second = g.going b control (x ∷ gap) in
    map-append event_of before (last ++ second)
    ∙ ap (λ ts. map event_of before ++ ts) (map-append event_of last second ∙ ap (λ (y : List Event). y ++ map event_of second) (events_at b (last_run (runs control))))
    ∙ sym (append_assoc (map event_of before) (last_run (runs control)) (map event_of second))
    ∙ ap (λ ts. ts ++ map event_of second) (control_row_reported j control)

walk_last : (g : Gaps) (j : ℕ) (control : List Column) (x : Column) (gap : List Column)
    → walk g j (stretch control (x ∷ gap) ∷ []) ≡ control_row j control ++ (gap_events g (j + length control) control (x ∷ gap) ++ g.ending (j + length control) control (x ∷ gap))
walk_last g j control x gap =
    ap (λ ts. ts ++ g.ending (j + length control) control (x ∷ gap)) (going_events g j control x gap)
    ∙ append_assoc (control_row j control) (gap_events g (j + length control) control (x ∷ gap)) (g.ending (j + length control) control (x ∷ gap))

walk_on : (g : Gaps) (j : ℕ) (control : List Column) (x : Column) (gap : List Column) (xs : List Cut) → some xs ≡ true
    → walk g j (stretch control (x ∷ gap) ∷ xs)
    ≡ control_row j control ++ (gap_events g (j + length control) control (x ∷ gap) ++ (g.closing (j + length control) control (x ∷ gap) ++ walk g (j + (length control + length (x ∷ gap))) xs))
walk_on g j control x gap xs h = grind (arith, map-append, going_events, events_at, append_assoc)

-- control columns and a gap, to the end
gap_cut : (g : Gaps) (j : ℕ) (control gap : List Column) → 1 ≤ length control → AllControl control → 1 ≤ length gap → NoneControl gap
    → walk g j (stretches (control ++ gap)) ≡ control_row j control ++ (gap_events g (j + length control) control gap ++ g.ending (j + length control) control gap)
gap_cut g j [] gap long all one none = absurd (omega arith)
gap_cut g j (c ∷ cs) [] long all one none = absurd (omega arith)
gap_cut g j (c ∷ cs) (x ∷ gap) long all one none =
    ap (λ xs. walk g j (stretches ((c ∷ cs) ++ xs))) (sym (append-nil (x ∷ gap)))
    ∙ ap (walk g j) (cut_both c cs x gap [] all none none_begins ∙ none_left (stretch (c ∷ cs) (x ∷ gap)))
    ∙ walk_last g j (c ∷ cs) x gap

-- and before a control column
gap_on : (g : Gaps) (j : ℕ) (control gap next : List Column) → 1 ≤ length control → AllControl control → 1 ≤ length gap → NoneControl gap → heads next ≡ true
    → walk g j (stretches (control ++ (gap ++ next)))
    ≡ control_row j control ++ (gap_events g (j + length control) control gap ++ (g.closing (j + length control) control gap ++ walk g (j + (length control + length gap)) (stretches next)))
gap_on g j [] gap next long all one none h = absurd (omega arith)
gap_on g j (c ∷ cs) [] next long all one none h = absurd (omega arith)
gap_on g j (c ∷ cs) (x ∷ gap) next long all one none h =
    ap (walk g j) (cut_both c cs x gap next all none (begins_heads next h)) ∙ walk_on g j (c ∷ cs) x gap (stretches next) (some_cut next h)

-- What has to be shown of each kind of period: of its columns as received, and its row by how many of
-- them were received.
pub record IsGapBy (g : Gaps) (before rs : List Column) (row : ℕ → ℕ → List Event) : Type 0 where
  pub no_control : NoneControl rs
  pub one : 1 ≤ length rs
  pub nothing : (b : ℕ) → row b 0 ≡ []
  pub part : (b k : ℕ) → 1 ≤ k → k ≤ length rs → gap_events g b before (take k rs) ++ g.ending b before (take k rs) ≡ row b k
  pub whole : (b k : ℕ) → length rs < k → gap_events g b before rs ++ g.closing b before rs ≡ row b k

take_no_control : (k : ℕ) (cs : List Column) → NoneControl cs → NoneControl (take k cs)
take_no_control zero cs h = refl
take_no_control (suc k) [] h = refl
take_no_control (suc k) (c ∷ cs) h = and_both _ _ (and-left _ _ h) (take_no_control k cs (and-right _ _ h))

heads_take : (k : ℕ) (cs : List Column) → 1 ≤ k → heads cs ≡ true → heads (take k cs) ≡ true
heads_take k cs h l = grind arith

-- what is reported of control columns, of the first k columns after them, and of what follows them
pub gap_law : (g : Gaps) (cs rs : List Column) (row : ℕ → ℕ → List Event) → 1 ≤ length cs → AllControl cs → IsGapBy g cs rs row
    → (j k : ℕ) (next : List Column) → heads next ≡ true
    → walk g j (stretches (cs ++ take k (rs ++ next)))
    ≡ control_row j cs ++ (row (j + length cs) k ++ walk g (j + length cs + length rs) (stretches (take (k - length rs) next)))
gap_law g cs rs row long all h j k next at = elim (cases_lt (length rs) k) [
  | inl lt ↦ all_received lt
  | inr le ↦ elim (cases_lt 0 k) [
    | inl one ↦ part_received one le
    | inr none ↦ nothing_received (omega arith)
  ]
]
  where
    nothing_received : k ≡ 0 → walk g j (stretches (cs ++ take k (rs ++ next)))
        ≡ control_row j cs ++ (row (j + length cs) k ++ walk g (j + length cs + length rs) (stretches (take (k - length rs) next)))
    nothing_received zero_k = grind (arith, append-nil, walk_control, walk_none)

    part_received : 1 ≤ k → k ≤ length rs → walk g j (stretches (cs ++ take k (rs ++ next)))
        ≡ control_row j cs ++ (row (j + length cs) k ++ walk g (j + length cs + length rs) (stretches (take (k - length rs) next)))
    part_received one le = grind (arith, length-take, take-append-le, gap_cut, take_no_control, append-nil, walk_none)

    all_received : length rs < k → walk g j (stretches (cs ++ take k (rs ++ next)))
        ≡ control_row j cs ++ (row (j + length cs) k ++ walk g (j + length cs + length rs) (stretches (take (k - length rs) next)))
    all_received lt =
        let i = k - length rs in
        let b = j + length cs in
        let e : k ≡ length rs + i = omega arith in
        grind (arith, take-append-add, gap_on, heads_take, append_assoc)
