-- What a sink has taken after a refusal.
use Rattle.std.specs.Prelude.{◌≡◌, List, ◌++◌}
use Rattle.tmds_word.specs.Column.{Column}

-- it took the first columns of some that are as they were to be
abbrev pub TookFront : List Column → List Column → (List Column → Type 0) → Type 0
TookFront before after Whole = (columns rest : List Column) × (after ≡ before ++ columns) × Whole (columns ++ rest)
