-- The longest runs of like values of a control period's columns.
use Rattle.std.specs.Prelude.{ℕ, suc, Bool, true, false, ◌==◌, List, [], ◌∷◌}
use Rattle.island_pack.specs.Periods.{ControlRun}

-- a value before the longest runs of like values, the first of which has it or not
abbrev pub joined : Bool → ℕ → ControlRun → List ControlRun → List ControlRun
joined true v r rs = record { value = r.value; count = suc r.count } ∷ rs
joined false v r rs = record { value = v; count = 1 } ∷ (r ∷ rs)

abbrev pub join : ℕ → List ControlRun → List ControlRun
join v [] = record { value = v; count = 1 } ∷ []
join v (r ∷ rs) = joined (v == r.value) v r rs

-- the longest runs of like values
unfoldable pub longest : List ℕ → List ControlRun
longest [] = []
longest (v ∷ vs) = join v (longest vs)
