-- What is reported of control columns: the words of a run that are no control words after the runs before it, and the
-- run after them, whatever was received.
use Rattle.std.proofs.Common.{◌≡◌, ℕ, ◌+◌, List, [], ◌∷◌, ◌++◌, length, map, refl, ap, ◌∙◌, append_assoc}
use Rattle.std.proofs.lemmas.List.{map-append}
use Rattle.tmds_word.specs.Column.{Column}
use Rattle.period_grammar.specs.Events.{run, at, event_of}
use Rattle.period_grammar.specs.Cut.{Run, columns, runs}
use Rattle.period_grammar.specs.Heard.{words, in_runs, last_run}
use Rattle.link_laws.specs.Account.{runs_row, control_row}
use Rattle.link_laws.proofs.Cutting.{control_reported}

runs_reported : (j : ℕ) (rs : List Run) → map event_of (in_runs j rs) ++ last_run rs ≡ runs_row j rs
unfolding runs_row
runs_reported j [] = refl
runs_reported j (columns v cs ∷ []) = refl
runs_reported j (columns v cs ∷ (s ∷ rs)) =
    let ws = words j cs in
    let k = j + length cs in
    let rest = in_runs k (s ∷ rs) in
    ap (λ ts. ts ++ last_run (s ∷ rs)) (map-append event_of ws (at k (run v (length cs)) ∷ rest))
    ∙ append_assoc (map event_of ws) (run v (length cs) ∷ map event_of rest) (last_run (s ∷ rs))
    ∙ ap (λ ts. map event_of ws ++ (run v (length cs) ∷ ts)) (runs_reported k (s ∷ rs))

pub control_row_reported : (j : ℕ) (cs : List Column) → control_reported j cs ≡ control_row j cs
control_row_reported j cs = runs_reported j (runs cs)
