-- What a feed adds to a lane is one.
use Rattle.std.specs.Prelude.{◌≡◌, ℕ, Bool, List}
use Rattle.lane_align.specs.Aligners.{AlignerRepresents, lock_of}
use Rattle.lane_team.specs.Sides.{Side, HasTaken}

-- two lanes that took the same bits after the same ones have one lock, and the same characters of that feed
abbrev pub OneTaking : Type 0
OneTaking =
    (old new other : Side) (bytes : List ℕ) (bits : ℕ) (xs : List Bool)
    → AlignerRepresents old.aligner xs → HasTaken old bytes bits new → HasTaken old bytes bits other
    → (lock_of new.aligner ≡ lock_of other.aligner) × (new.words ≡ other.words)
