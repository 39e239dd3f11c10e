-- Stretches and runs of a list of columns with one column more.
use Rattle.std.proofs.Common.{arith, ◌≡◌, ℕ, Bool, true, false, ◌==◌, List, [], ◌∷◌, ◌++◌, refl, ap, ◌∙◌}
use Rattle.std.proofs.lemmas.Bool.{eqb-true}
use Rattle.tmds_word.specs.Column.{Column}
use Rattle.terc4.specs.Columns.{is_control_column}
use Rattle.period_grammar.specs.Column.{value_of}
use Rattle.period_grammar.specs.Cut.{Stretch, stretch, before, stretches, Run, columns, in_front, before_runs, runs}

-- a column after stretches
abbrev pub after : Bool → Column → List Stretch → List Stretch
after true c [] = stretch (c ∷ []) [] ∷ []
after false c [] = stretch [] (c ∷ []) ∷ []
after true c (stretch control [] ∷ []) = stretch (control ++ c ∷ []) [] ∷ []
after true c (stretch control (g ∷ gap) ∷ []) = stretch control (g ∷ gap) ∷ (stretch (c ∷ []) [] ∷ [])
after false c (stretch control gap ∷ []) = stretch control (gap ++ c ∷ []) ∷ []
after true c (x ∷ (y ∷ ys)) = x ∷ after true c (y ∷ ys)
after false c (x ∷ (y ∷ ys)) = x ∷ after false c (y ∷ ys)

commute : (p q : Bool) (d c : Column) (xs : List Stretch) → before p d (after q c xs) ≡ after q c (before p d xs)
commute p q d c xs = grind arith

single : (p : Bool) (c : Column) → before p c [] ≡ after p c []
single p c = grind arith

pub stretches_push : (cs : List Column) (c : Column) → stretches (cs ++ c ∷ []) ≡ after (is_control_column c) c (stretches cs)
unfolding stretches
stretches_push [] c = single (is_control_column c) c
stretches_push (d ∷ cs) c = ap (before (is_control_column d) d) (stretches_push cs c) ∙ commute (is_control_column d) (is_control_column c) d c (stretches cs)

-- a column after runs
abbrev pub trail : Bool → Column → ℕ → List Column → List Run
trail true c v cs = columns v (cs ++ c ∷ []) ∷ []
trail false c v cs = columns v cs ∷ (columns (value_of c) (c ∷ []) ∷ [])

abbrev pub after_runs : Column → List Run → List Run
after_runs c [] = columns (value_of c) (c ∷ []) ∷ []
after_runs c (columns v cs ∷ []) = trail (v == value_of c) c v cs
after_runs c (r ∷ (s ∷ rs)) = r ∷ after_runs c (s ∷ rs)

two : (d c : Column) (q : Bool) → (value_of d == value_of c) ≡ q → in_front q d (columns (value_of c) (c ∷ [])) [] ≡ trail q c (value_of d) (d ∷ [])
two d c q h = grind (arith, eqb-true)

over : (d c : Column) (v : ℕ) (cs : List Column) (p q : Bool) → (value_of d == v) ≡ p → (v == value_of c) ≡ q
    → before_runs d (trail q c v cs) ≡ after_runs c (in_front p d (columns v cs) [])
over d c v cs p q h k = grind arith

far : (p : Bool) (d c : Column) (r s : Run) (rs : List Run) → in_front p d r (after_runs c (s ∷ rs)) ≡ after_runs c (in_front p d r (s ∷ rs))
far p d c r s rs = grind arith

commute_runs : (d c : Column) (rs : List Run) → before_runs d (after_runs c rs) ≡ after_runs c (before_runs d rs)
commute_runs d c rs = grind (arith, two, over, far)

pub runs_push : (cs : List Column) (c : Column) → runs (cs ++ c ∷ []) ≡ after_runs c (runs cs)
unfolding runs
runs_push [] c = refl
runs_push (d ∷ cs) c = ap (before_runs d) (runs_push cs c) ∙ commute_runs d c (runs cs)
