-- Of columns of control words their runs alone are reported, and no fault.
use Rattle.std.proofs.Common.{arith, ◌≡◌, ℕ, suc, zero, ◌+◌, ◌==◌, true, List, [], ◌∷◌, length, map, take, refl, ap, ap₂, sym, ◌∙◌, subst}
use Rattle.std.specs.Prelude.{nat_lt}
use Rattle.std.specs.List.{list_all}
use Rattle.std.proofs.lemmas.Bool.{eqb-true, ltb-true}
use Rattle.std.proofs.lemmas.List.{map-append}
use Rattle.tmds_word.specs.Column.{Column}
use Rattle.tmds_word.proofs.Below.{and-left, and-right, passes_below, passes_at}
use Rattle.terc4.specs.Tables.{control_words, value_in}
use Rattle.island_pack.specs.Periods.{has_preamble as announces}
use Rattle.island_pack.specs.Spelling.{control_column}
use Rattle.period_grammar.specs.Column.{control_bits, value_of}
use Rattle.period_grammar.specs.Events.{Event, run, preamble, all_at, event_of}
use Rattle.period_grammar.specs.Cut.{Run, columns, before_runs, runs}
use Rattle.period_grammar.specs.Heard.{other_words, words, has_preamble, if_not}
use Rattle.period_grammar.specs.Exact.{faultless}
use Rattle.period_grammar.proofs.Hearings.{events_at}
use Rattle.link_laws.specs.Account.{runs_row, control_row, wrong_preamble}
use Rattle.link_laws.proofs.Rows.{and_both, control_columns, clean, Small, all_clean}
use Rattle.link_laws.proofs.exact.Faultless.{Fine, fine_both}
use Rattle.link_laws.proofs.exact.Controls.{clean_runs}

-- Words and runs.

clean_column_fine : (j : ℕ) (c : Column) → clean c ≡ true → Fine (other_words j c)
unfolding other_words
clean_column_fine j c h = grind (arith, and-right, fine_both, and-left)

clean_before : (c : Column) (rs : List Run) → clean c ≡ true → clean_runs rs ≡ true → clean_runs (before_runs c rs) ≡ true
clean_before c rs h k = grind (arith, and_both, and-left, and-right, clean)

runs_clean : (cs : List Column) → list_all clean cs ≡ true → clean_runs (runs cs) ≡ true
unfolding runs
runs_clean [] h = refl
runs_clean (c ∷ cs) h = clean_before c (runs cs) (and-left _ _ h) (runs_clean cs (and-right (clean c) _ h))

columns_fine : (j : ℕ) (cs : List Column) → list_all clean cs ≡ true → Fine (map event_of (words j cs))
columns_fine j [] h = refl
columns_fine j (c ∷ cs) h =
    let here = all_at j (other_words j c) in
    subst (λ (ts : List Event). Fine ts) (sym (map-append event_of here (words (j + 1) cs)))
    (fine_both (map event_of here) (map event_of (words (j + 1) cs))
    (subst (λ (ts : List Event). Fine ts) (sym (events_at j (other_words j c))) (clean_column_fine j c (and-left _ _ h)))
    (columns_fine (j + 1) cs (and-right (clean c) _ h)))

runs_fine : (j : ℕ) (rs : List Run) → clean_runs rs ≡ true → Fine (runs_row j rs)
unfolding runs_row
runs_fine j [] h = refl
runs_fine j (columns v cs ∷ rs) h =
    fine_both (map event_of (words j cs)) (run v (length cs) ∷ runs_row (j + length cs) rs) (columns_fine j cs (and-left _ _ h))
    (runs_fine (j + length cs) rs (and-right (list_all clean cs) _ h))

take_clean : (m : ℕ) (cs : List Column) → list_all clean cs ≡ true → list_all clean (take m cs) ≡ true
take_clean zero cs h = refl
take_clean (suc m) [] h = refl
take_clean (suc m) (c ∷ cs) h = and_both _ _ (and-left _ _ h) (take_clean m cs (and-right (clean c) _ h))

pub control_fine : (j m : ℕ) (vs : List ℕ) → Small vs → Fine (control_row j (take m (control_columns vs)))
control_fine j m vs small =
    let cs = take m (control_columns vs) in
    runs_fine j (runs cs) (runs_clean cs (take_clean m (control_columns vs) (all_clean vs small)))

-- The preamble.

-- the column of a value has that value
value_test : passes_below 64 (λ v. value_of (control_column v) == v) ≡ true
unfolding passes_below value_of control_bits value_in control_words
value_test = refl

values_back : (vs : List ℕ) → Small vs → map value_of (control_columns vs) ≡ vs
values_back [] h = refl
values_back (v ∷ vs) h =
    ap₂ (λ (w : ℕ) (ws : List ℕ). w ∷ ws) (eqb-true _ v (passes_at 64 (λ v. value_of (control_column v) == v) v value_test (ltb-true v 64 (and-left _ _ h))))
    (values_back vs (and-right (nat_lt v 64) _ h))

pub preamble_fine : (b bits : ℕ) (vs : List ℕ) → Small vs → announces bits vs ≡ true → Fine (wrong_preamble b bits (control_columns vs))
unfolding has_preamble
preamble_fine b bits vs small h = ap (λ p. faultless (if_not p (preamble b))) (ap (announces bits) (values_back vs small) ∙ h)
