-- Where control periods begin that end at three edges.
use Rattle.std.specs.Prelude.{ℕ, ◌-◌, Bool, List, slice_index, MatchOption}
use Rattle.lane_edges.specs.Begins.{IsBeginOf, IsLastBegin}
use Rattle.alignment_search.specs.declared.lane.LaneEdges.{LaneEdges}
use Rattle.alignment_search.specs.declared.finder.AlignmentFinder.{AlignmentFinder}

-- on each of three lanes a control period begins so many bits before the edge
pub record BeginsSo (xs ys zs : List Bool) (d e f : ℕ) : Type 0 where
  pub bits : ℕ
  pub blue : IsBeginOf xs d (d - bits)
  pub green : IsBeginOf ys e (e - bits)
  pub red : IsBeginOf zs f (f - bits)

abbrev pub HaveOneBegin : List Bool → List Bool → List Bool → List ℕ → Type 0
HaveOneBegin xs ys zs edges = BeginsSo xs ys zs (slice_index edges 0) (slice_index edges 1) (slice_index edges 2)

-- a lane that was looked at up to an edge knows the last beginning before it
abbrev pub HasBegun : List Bool → ℕ → LaneEdges → Type 0
HasBegun xs e lane = MatchOption lane.finder ⊥ (λ finder. IsLastBegin xs e finder.begun)

pub record HaveBegun (finder : AlignmentFinder) (xs ys zs : List Bool) (edges : List ℕ) : Type 0 where
  pub blue : HasBegun xs (slice_index edges 0) finder.blue
  pub green : HasBegun ys (slice_index edges 1) finder.green
  pub red : HasBegun zs (slice_index edges 2) finder.red
