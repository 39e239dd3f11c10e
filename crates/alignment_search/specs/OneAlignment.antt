-- Three lanes have one next full alignment from a place on.
use Rattle.std.specs.Prelude.{◌≡◌, ℕ, ◌≤◌, Bool, List, slice_index}
use Rattle.alignment_search.specs.Alignments.{greatest, HasNoAlignment, IsNextAlignment}

-- two that are next have the same edges
abbrev pub OneNextAlignment : Type 0
OneNextAlignment =
    (xs ys zs : List Bool) (past : ℕ) (edges other : List ℕ)
    → IsNextAlignment xs ys zs past edges → IsNextAlignment xs ys zs past other
    → (slice_index edges 0 ≡ slice_index other 0) × (slice_index edges 1 ≡ slice_index other 1) × (slice_index edges 2 ≡ slice_index other 2)

-- and where there is none before a limit, the next one does not lie before it
abbrev pub NextIsNone : Type 0
NextIsNone =
    (xs ys zs : List Bool) (past limit : ℕ) (edges : List ℕ)
    → HasNoAlignment xs ys zs past limit → IsNextAlignment xs ys zs past edges → limit ≤ greatest edges
