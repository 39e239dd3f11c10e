-- Streams in which control periods alternate with what is none, whatever that is.
use Rattle.std.specs.Prelude.{◌≡◌, ℕ, ◌≤◌, List, [], ◌++◌, length, replicate}
use Rattle.island_pack.specs.Kinds.{Kind, control_column, first_guard, kind_at}

-- what stands between two control periods
pub record IsMiddle (mid : List Kind) : Type 0 where
  pub first : kind_at mid 0 ≡ first_guard
  pub none : (i : ℕ) → kind_at mid i ≡ control_column → ⊥
  pub long : 3 ≤ length mid

-- a control period, what stands after it, and the rest
abbrev pub built : ℕ → List Kind → List Kind → List Kind
built n mid rest = replicate n control_column ++ (mid ++ rest)

-- control periods of at least twelve columns, and between any two of them no control column
pub data IsAlternating : List Kind → Type 0 where
  last : (n : ℕ) → 12 ≤ n → IsAlternating (replicate n control_column ++ [])
  more : (n : ℕ) (mid rest : List Kind) → 12 ≤ n → IsMiddle mid → IsAlternating rest → IsAlternating (built n mid rest)
