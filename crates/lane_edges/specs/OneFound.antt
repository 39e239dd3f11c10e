-- One answer is found from a place of a lane on, and one finder stands there.
use Rattle.std.specs.Prelude.{◌≡◌, ℕ, Bool, List, Option}
use Rattle.lane_edges.specs.Finders.{HasScanned, IsFound}
use Rattle.lane_edges.specs.declared.finder.EdgeFinder.{EdgeFinder}

abbrev pub OneFound : Type 0
OneFound =
    (xs : List Bool) (from next later until : ℕ) (found other : Option ℕ)
    → IsFound xs from next until found → IsFound xs from later until other → found ≡ other

-- two finders at one place count as many control words
abbrev pub OneRun : Type 0
OneRun = (xs : List Bool) (lock : ℕ) (a b : EdgeFinder) → HasScanned xs lock a → HasScanned xs lock b → a.next ≡ b.next → a.run ≡ b.run
