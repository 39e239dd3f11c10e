-- How far the edges of a lane were looked for.
use Rattle.std.specs.Prelude.{◌≡◌, ◌⊎◌, ℕ, ◌+◌, ◌<◌, ◌≤◌, Bool, List, length, Option, MatchOption}
use Rattle.lane_align.specs.Lanes.{IsRun, IsEdge, IsNextEdge}
use Rattle.lane_edges.specs.Finders.{HasScanned, HasNoEdge}
use Rattle.lane_edges.specs.declared.finder.EdgeFinder.{EdgeFinder}
use Rattle.alignment_search.specs.declared.lane.LaneEdges.{LaneEdges}

-- the next edge from a place on, where it lies before a limit, and the next character is that after it; or none, and the
-- next character lies past the limit, or is not whole
abbrev pub IsAt : List Bool → ℕ → ℕ → ℕ → Option ℕ → Type 0
IsAt xs from limit next edge =
    MatchOption edge (HasNoEdge xs from next × ((limit ≤ next) ⊎ (length xs < next + 10))) (λ e. IsNextEdge xs from e × (next ≡ e + 10) × (e < limit))

-- a finder stands there
pub record HasLocked (xs : List Bool) (from limit : ℕ) (finder : EdgeFinder) (edge : Option ℕ) : Type 0 where
  pub lock : ℕ
  pub scanned : HasScanned xs lock finder
  pub found : IsAt xs from limit finder.next edge

-- the lane has no run before a place; or a lock, and its next edge from a place on is known as far as a limit
abbrev pub HasReached : List Bool → ℕ → ℕ → ℕ → LaneEdges → Type 0
HasReached xs from places limit lane = MatchOption lane.finder ((p : ℕ) → p < places → IsRun xs p → ⊥) (λ finder. HasLocked xs from limit finder lane.edge)

-- the bits of a lane that are lent reach back to the next character, or it is not whole
abbrev pub CanLook : List Bool → ℕ → EdgeFinder → Type 0
CanLook xs base finder = (base ≤ finder.next) ⊎ (length xs < finder.next + 10)

-- after edges from a place on were looked for up to a limit, they can be from a later one on and up to a later limit
pub record CanReach (base low was from limit : ℕ) : Type 0 where
  pub order : low ≤ from
  pub lent : base ≤ low
  pub lent_past : base ≤ was
  pub rises : was ≤ limit

-- no edge from a place on lies before this one, which is one itself where it lies before a limit
pub record IsBound (xs : List Bool) (from limit d : ℕ) : Type 0 where
  pub none : HasNoEdge xs from d
  pub edge : d < limit → IsEdge xs d
