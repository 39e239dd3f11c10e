-- Edges of three lanes that the search for a first full alignment has reached.
use Rattle.std.specs.Prelude.{ℕ, ◌+◌, ◌≤◌, Bool, List, slice_index}
use Rattle.lane_align.specs.Lanes.{IsEdge}
use Rattle.lane_deskew.specs.Triples.{AreTriple}
use Rattle.tmds_word.specs.Taps.{AreNear}

-- any two near each other
abbrev pub AreAllNear : ℕ → ℕ → ℕ → Type 0
AreAllNear d e f = AreNear d e × AreNear e f × AreNear d f

-- edges before which no triple has one
pub record HaveReached (A B C : ℕ → Type 0) (d e f : ℕ) : Type 0 where
  pub blue : A d
  pub green : B e
  pub red : C f
  pub before : (p q r : ℕ) → AreTriple A B C p q r → (d ≤ p) × (e ≤ q) × (f ≤ r)

abbrev pub AreReached : List Bool → List Bool → List Bool → ℕ → ℕ → ℕ → Type 0
AreReached xs ys zs = HaveReached (IsEdge xs) (IsEdge ys) (IsEdge zs)

-- three numbers, summed
abbrev pub sum_of : List ℕ → ℕ
sum_of edges = slice_index edges 0 + slice_index edges 1 + slice_index edges 2
