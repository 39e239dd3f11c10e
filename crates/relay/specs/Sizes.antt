-- How many columns what is relayed takes.
use Rattle.std.specs.Prelude.{ℕ, ◌+◌, List, [], ◌∷◌, length, max}
use Rattle.island_pack.specs.Periods.{period_columns}
use Rattle.relay.specs.Relayed.{Turn, Alternation, period_of}

-- at least twelve columns
abbrev pub room : List ℕ → ℕ
room vs = max 12 (length vs)

abbrev pub size_in : List Turn → ℕ
size_in [] = 0
size_in (x ∷ xs) = room x.values + period_columns (period_of x.inner) + size_in xs

abbrev pub size : Alternation → ℕ
size t = size_in t.turns + room t.last
