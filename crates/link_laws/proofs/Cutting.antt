-- How control columns, columns that are none, and the rest are cut; and what is reported of them.
use Rattle.std.proofs.Common.{arith, ◌≡◌, ℕ, ◌+◌, Bool, true, false, not, List, [], ◌∷◌, ◌++◌, length, map, refl, ap, sym, ◌∙◌, append_assoc}
use Rattle.std.specs.List.{list_all}
use Rattle.std.proofs.lemmas.List.{append-nil, map-append}
use Rattle.tmds_word.specs.Column.{Column}
use Rattle.tmds_word.proofs.Below.{and-left, and-right}
use Rattle.terc4.specs.Columns.{is_control_column}
use Rattle.link_laws.proofs.Computed.{not_true}
use Rattle.period_grammar.specs.Events.{Event, event_of}
use Rattle.period_grammar.specs.Cut.{before, runs, Stretch as Cut, stretch, stretches}
use Rattle.period_grammar.specs.Heard.{in_runs, last_run, in_gap, at_close, at_end, so_far, reported_from, end_from}
use Rattle.period_grammar.proofs.Hearings.{events_at}

-- columns that are all control columns, and columns none of which is
abbrev pub AllControl : List Column → Type 0
AllControl cs = list_all is_control_column cs ≡ true

abbrev pub NoneControl : List Column → Type 0
NoneControl cs = list_all (λ c. not (is_control_column c)) cs ≡ true

-- periods that begin with a control column, or are none
abbrev pub begins : List Cut → Bool
begins [] = true
begins (stretch [] gap ∷ xs) = false
begins (stretch (k ∷ control) gap ∷ xs) = true

abbrev pub with_gap : List Column → List Cut → List Cut
with_gap [] xs = xs
with_gap (g ∷ gap) xs = stretch [] (g ∷ gap) ∷ xs

abbrev pub with_control : List Column → List Cut → List Cut
with_control [] xs = xs
with_control (c ∷ cs) [] = stretch (c ∷ cs) [] ∷ []
with_control (c ∷ cs) (stretch control gap ∷ xs) = stretch (c ∷ (cs ++ control)) gap ∷ xs

pub cut_gap : (gap rest : List Column) → NoneControl gap → begins (stretches rest) ≡ true → stretches (gap ++ rest) ≡ with_gap gap (stretches rest)
unfolding stretches
cut_gap [] rest none h = refl
cut_gap (g ∷ []) rest none h = grind (arith, not_true, and-left)
cut_gap (g ∷ (i ∷ gap)) rest none h =
    ap (λ p. before p g (stretches (i ∷ (gap ++ rest)))) (not_true _ (and-left _ _ none)) ∙ ap (before false g) (cut_gap (i ∷ gap) rest (and-right _ _ none) h)

two_controls : (c d : Column) (cs : List Column) (xs : List Cut) → before true c (with_control (d ∷ cs) xs) ≡ with_control (c ∷ (d ∷ cs)) xs
two_controls c d cs xs = grind arith

pub cut_control : (control rest : List Column) → AllControl control → stretches (control ++ rest) ≡ with_control control (stretches rest)
unfolding stretches
cut_control [] rest all = refl
cut_control (c ∷ []) rest all = grind (arith, and-left)
cut_control (c ∷ (d ∷ cs)) rest all =
    ap (λ p. before p c (stretches (d ∷ (cs ++ rest)))) (and-left _ _ all) ∙ ap (before true c) (cut_control (d ∷ cs) rest (and-right _ _ all)) ∙ two_controls c d cs (stretches rest)

pub begins_control : (c : Column) (cs : List Column) → is_control_column c ≡ true → begins (stretches (c ∷ cs)) ≡ true
unfolding stretches
begins_control c cs h = grind arith

joined : (c : Column) (cs : List Column) (g : Column) (gap : List Column) (xs : List Cut) → with_control (c ∷ cs) (stretch [] (g ∷ gap) ∷ xs) ≡ stretch (c ∷ cs) (g ∷ gap) ∷ xs
joined c cs g gap xs = ap (λ ds. stretch (c ∷ ds) (g ∷ gap) ∷ xs) (append-nil cs)

-- control columns, others, and the rest
pub cut_both : (c : Column) (control : List Column) (g : Column) (gap rest : List Column) → AllControl (c ∷ control) → NoneControl (g ∷ gap) → begins (stretches rest) ≡ true
    → stretches ((c ∷ control) ++ ((g ∷ gap) ++ rest)) ≡ stretch (c ∷ control) (g ∷ gap) ∷ stretches rest
cut_both c control g gap rest all none h =
    cut_control (c ∷ control) ((g ∷ gap) ++ rest) all ∙ ap (with_control (c ∷ control)) (cut_gap (g ∷ gap) rest none h) ∙ joined c control g gap (stretches rest)

-- what is reported of periods from column j on, with what is reported at the end
abbrev pub hear : ℕ → List Cut → List Event
hear j xs = map event_of (reported_from j xs) ++ end_from j xs

-- what is reported of columns that are no control columns while they go on
abbrev pub gap_events : ℕ → List Column → List Column → List Event
gap_events b control gap = map event_of (in_gap b control gap)

-- what is reported of control columns whose last run ends
abbrev pub control_reported : ℕ → List Column → List Event
control_reported j control = map event_of (in_runs j (runs control)) ++ last_run (runs control)

-- control columns alone
pub hear_control : (j : ℕ) (control : List Column) → AllControl control → hear j (stretches control) ≡ control_reported j control
unfolding stretches runs
hear_control j control all =
    ap (λ cs. hear j (stretches cs)) (sym (append-nil control)) ∙ ap (hear j) (cut_control control [] all) ∙ by control
  where
    by : (cs : List Column) → hear j (with_control cs (stretches [])) ≡ control_reported j cs
    by [] = refl
    by (c ∷ cs) = refl

so_far_events : (j : ℕ) (control : List Column) (g : Column) (gap : List Column)
    → map event_of (so_far j (stretch control (g ∷ gap))) ≡ control_reported j control ++ gap_events (j + length control) control (g ∷ gap)
so_far_events j control g gap = grind (arith, map-append, events_at, append_assoc)

-- a period that goes on to the end
pub hear_last : (j : ℕ) (control : List Column) (g : Column) (gap : List Column)
    → hear j (stretch control (g ∷ gap) ∷ []) ≡ control_reported j control ++ (gap_events (j + length control) control (g ∷ gap) ++ at_end (j + length control) (g ∷ gap))
hear_last j control g gap =
    ap (λ ts. ts ++ at_end (j + length control) (g ∷ gap)) (so_far_events j control g gap)
    ∙ append_assoc (control_reported j control) (gap_events (j + length control) control (g ∷ gap)) (at_end (j + length control) (g ∷ gap))

-- a period with others after it
pub hear_on : (j : ℕ) (control : List Column) (g : Column) (gap : List Column) (y : Cut) (ys : List Cut)
    → hear j (stretch control (g ∷ gap) ∷ (y ∷ ys))
    ≡ control_reported j control ++ (gap_events (j + length control) control (g ∷ gap) ++ (at_close (j + length control) (g ∷ gap) ++ hear (j + (length control + length (g ∷ gap))) (y ∷ ys)))
hear_on j control g gap y ys = grind (arith, map-append, so_far_events, events_at, append_assoc)
