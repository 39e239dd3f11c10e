-- The first full alignment of three lanes: where runs of control words end on all three, near each other.
-- The lanes of a link carry the same kinds of characters at one time (HDMI 1.4, section 5.1), and may arrive
-- later than one another.
use Rattle.std.specs.Prelude.{ℕ, ◌≤◌, max, Bool, List, slice_index}
use Rattle.tmds_word.specs.Taps.{AreNear}
use Rattle.lane_align.specs.Lanes.{IsEdge}

-- edges of three lanes, any two near each other. What is an edge of each lane is an argument: a place of its bits, or
-- of the characters that were cut from them
pub record AreTriple (A B C : ℕ → Type 0) (d e f : ℕ) : Type 0 where
  pub blue : A d
  pub green : B e
  pub red : C f
  pub blue_green : AreNear d e
  pub green_red : AreNear e f
  pub blue_red : AreNear d f

-- the triple whose largest edge is least
pub record AreFirst (A B C : ℕ → Type 0) (d e f : ℕ) : Type 0 where
  pub triple : AreTriple A B C d e f
  pub least : (p q r : ℕ) → AreTriple A B C p q r → max d (max e f) ≤ max p (max q r)

-- of the edges of three lists of bits
abbrev pub IsTriple : List Bool → List Bool → List Bool → ℕ → ℕ → ℕ → Type 0
IsTriple xs ys zs = AreTriple (IsEdge xs) (IsEdge ys) (IsEdge zs)

abbrev pub IsFirst : List Bool → List Bool → List Bool → ℕ → ℕ → ℕ → Type 0
IsFirst xs ys zs = AreFirst (IsEdge xs) (IsEdge ys) (IsEdge zs)

-- the same of a list of three edges, lane 0 first
abbrev pub IsAlignment : List Bool → List Bool → List Bool → List ℕ → Type 0
IsAlignment xs ys zs edges = IsFirst xs ys zs (slice_index edges 0) (slice_index edges 1) (slice_index edges 2)
