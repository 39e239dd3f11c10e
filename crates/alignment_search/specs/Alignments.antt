-- Full alignments of three lanes, in the order of their greatest edges.
use Rattle.std.specs.Prelude.{ℕ, ◌≤◌, max, min, Bool, List, slice_index}
use Rattle.lane_deskew.specs.Triples.{IsTriple}

-- of three places
abbrev pub greatest : List ℕ → ℕ
greatest places = max (slice_index places 0) (max (slice_index places 1) (slice_index places 2))

abbrev pub least : List ℕ → ℕ
least places = min (slice_index places 0) (min (slice_index places 1) (slice_index places 2))

-- no alignment has its greatest edge at or after one place and before another
abbrev pub HasNoAlignment : List Bool → List Bool → List Bool → ℕ → ℕ → Type 0
HasNoAlignment xs ys zs past limit = (d e f : ℕ) → IsTriple xs ys zs d e f → past ≤ max d (max e f) → limit ≤ max d (max e f)

-- of the alignments whose greatest edge lies at or after a place, that whose greatest edge is least. From the place 0 on it is
-- the first alignment, IsAlignment of lane_deskew
pub record IsNextAlignment (blue green red : List Bool) (past : ℕ) (edges : List ℕ) : Type 0 where
  pub triple : IsTriple blue green red (slice_index edges 0) (slice_index edges 1) (slice_index edges 2)
  pub after : past ≤ greatest edges
  pub least : HasNoAlignment blue green red past (greatest edges)
