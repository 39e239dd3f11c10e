-- What was reported before a column.
use Rattle.std.specs.Prelude.{◌≡◌, ℕ, List, take}
use Rattle.tmds_word.specs.Column.{Column}
use Rattle.period_grammar.specs.Events.{reported_before}
use Rattle.period_grammar.specs.Heard.{heard_so_far}

-- what is reported of a list at columns before column n is what is reported of its first n columns so far
abbrev pub ReportedBefore : Type 0
ReportedBefore = (n : ℕ) (cs : List Column) → reported_before n (heard_so_far cs) ≡ heard_so_far (take n cs)
