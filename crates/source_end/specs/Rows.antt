-- Rows that lie one after the other.
use Rattle.std.specs.Prelude.{◌≡◌, ℕ, ◌-◌, ◌≤◌, List, [], ◌∷◌, take, drop}

-- the rows of bytes from `from` on, each up to its end
abbrev pub rows_between : ℕ → List ℕ → List ℕ → List (List ℕ)
rows_between from bytes [] = []
rows_between from bytes (e ∷ ends) = take (e - from) (drop from bytes) ∷ rows_between e bytes ends

-- ends that never fall, the last of which is n
abbrev pub AreEnds : ℕ → List ℕ → ℕ → Type 0
AreEnds from [] n = from ≡ n
AreEnds from (e ∷ ends) n = (from ≤ e) × AreEnds e ends n
