-- What a scout stands for: the bits of a lane from the beginning of an epoch on, as far as it has looked through them.
use Rattle.std.specs.Prelude.{◌≡◌, ℕ, ◌+◌, ◌<◌, ◌≤◌, Bool, List, length, take, drop, Option, MatchOption}
use Rattle.lane_align.specs.Lanes.{IsRun, IsLock}
use Rattle.lane_track.specs.Strays.{IsStray}

-- no stray, and the lock if there is one, before a place
pub record HasSought (xs : List Bool) (seen : ℕ) (found : Option ℕ) : Type 0 where
  pub lock : MatchOption found ((p : ℕ) → p < seen → IsRun xs p → ⊥) (λ l. IsLock xs l × (l < seen))
  pub none : (p : ℕ) → p < seen → IsStray xs p → ⊥

-- the first bits are so many bits of a lane, which begin at a place of it; what stands after them is of no account
pub record HoldsBits (bits : List Bool) (xs : List Bool) (base count : ℕ) : Type 0 where
  pub within : base + count ≤ length xs
  pub same : take count bits ≡ take count (drop base xs)
