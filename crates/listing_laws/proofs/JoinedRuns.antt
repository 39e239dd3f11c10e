-- Periods whose neighbouring runs of one value are joined: they conform, and the same columns spell them.
use Rattle.std.proofs.Common.{◌≡◌, ℕ, ◌+◌, true, Bool, List, [], ◌∷◌, map, refl, ap, ap₂, ◌∙◌, arith}
use Rattle.std.specs.Prelude.{nat_lt}
use Rattle.std.specs.List.{list_all}
use Rattle.std.proofs.lemmas.Bool.{le-leb}
use Rattle.tmds_word.specs.Column.{Column}
use Rattle.tmds_word.proofs.Below.{and-left, and-right}
use Rattle.island_pack.specs.Periods.{ControlRun, Period, control, video, island, values_of, has_preamble, period_columns, columns_of}
use Rattle.island_pack.specs.Conforming.{is_run, is_control_period, conforms}
use Rattle.island_pack.specs.Spelling.{SpellsPeriod, Spells}
use Rattle.island_pack.specs.Runs.{joined, join, longest}
use Rattle.island_pack.proofs.Runs.{values_longest}
use Rattle.link_laws.proofs.Rows.{and_both, Small}
use Rattle.link_laws.proofs.Conformed.{is_control_of}

-- a period with the longest runs of its values
abbrev pub joined_period : Period → Period
joined_period (control runs) = control (longest (values_of runs))
joined_period (video bytes) = video bytes
joined_period (island x) = island x

abbrev pub joined_periods : List Period → List Period
joined_periods periods = map joined_period periods

-- ---- they conform

joined_runs : (same : Bool) (v : ℕ) (r : ControlRun) (rs : List ControlRun) → nat_lt v 64 ≡ true → list_all is_run (r ∷ rs) ≡ true → list_all is_run (joined same v r rs) ≡ true
joined_runs same v r rs h k = grind (arith, and_both, and-left, and-right, le-leb)

join_runs : (v : ℕ) (rs : List ControlRun) → nat_lt v 64 ≡ true → list_all is_run rs ≡ true → list_all is_run (join v rs) ≡ true
join_runs v rs h k = grind (arith, and_both, joined_runs)

longest_runs : (vs : List ℕ) → Small vs → list_all is_run (longest vs) ≡ true
unfolding longest
longest_runs [] small = refl
longest_runs (v ∷ vs) small = join_runs v (longest vs) (and-left (nat_lt v 64) _ small) (longest_runs vs (and-right (nat_lt v 64) _ small))

joined_control : (runs : List ControlRun) → is_control_period runs ≡ true → is_control_period (longest (values_of runs)) ≡ true
unfolding is_control_period
joined_control runs h = grind (arith, is_control_of, and_both, longest_runs, values_longest, le-leb)

joined_preamble : (bits : ℕ) (runs : List ControlRun) → has_preamble bits (values_of runs) ≡ true → has_preamble bits (values_of (longest (values_of runs))) ≡ true
joined_preamble bits runs h = ap (has_preamble bits) (values_longest (values_of runs)) ∙ h

pub joined_conform : (ps : List Period) → conforms ps ≡ true → conforms (joined_periods ps) ≡ true
unfolding conforms
joined_conform [] h = h
joined_conform (video bytes ∷ rest) h = h
joined_conform (island x ∷ rest) h = h
joined_conform (control runs ∷ []) h = joined_control runs h
joined_conform (control runs ∷ (control more ∷ rest)) h = h
joined_conform (control runs ∷ (video bytes ∷ rest)) h = grind (arith, and-right, and_both, joined_control, and-left, joined_preamble, joined_conform rest)
joined_conform (control runs ∷ (island x ∷ rest)) h = grind (arith, and-right, and_both, joined_control, and-left, joined_preamble, joined_conform rest)

-- ---- they have the same columns

period_same : (p : Period) → period_columns (joined_period p) ≡ period_columns p
unfolding period_columns
period_same p = grind (arith, values_longest)

pub columns_same : (ps : List Period) → columns_of (joined_periods ps) ≡ columns_of ps
unfolding columns_of
columns_same [] = refl
columns_same (p ∷ ps) = ap₂ (λ (n m : ℕ). n + m) (period_same p) (columns_same ps)

spelled_period : (p : Period) (cs : List Column) → SpellsPeriod (joined_period p) cs → SpellsPeriod p cs
spelled_period p cs h = grind (arith, values_longest)

period_spelled : (p : Period) (cs : List Column) → SpellsPeriod p cs → SpellsPeriod (joined_period p) cs
period_spelled p cs h = grind (arith, values_longest)

pub spelled_joined : (ps : List Period) (cs : List Column) → Spells (joined_periods ps) cs → Spells ps cs
spelled_joined [] cs h = h
spelled_joined (p ∷ ps) cs h = (h.0, h.1, h.2, spelled_period p h.0 h.3, spelled_joined ps h.1 h.4)

pub joined_spelled : (ps : List Period) (cs : List Column) → Spells ps cs → Spells (joined_periods ps) cs
joined_spelled [] cs h = h
joined_spelled (p ∷ ps) cs h = (h.0, h.1, h.2, period_spelled p h.0 h.3, joined_spelled ps h.1 h.4)
