-- Bits of three lanes that are lent, and what was taken of them.
use Rattle.std.specs.Prelude.{◌≡◌, ◌⊎◌, ℕ, ◌+◌, ◌-◌, ◌*◌, ◌/◌, ◌%◌, ◌<◌, ◌≤◌, min, max, List, [], ◌∷◌, length, take, drop}
use Rattle.tmds_word.specs.Bits.{bytes_bits}
use Rattle.tmds_word.specs.declared.TheConstants.{MOST_BITS}
use Rattle.link_sink.specs.Sinks.{Fed, grown}
use Rattle.c_room.specs.declared.lanes.BitCounts.{BitCounts}
use Rattle.c_room.specs.declared.lanes.CallerLanes.{CallerLanes}

-- how many bits the longest lane has
abbrev pub most_of : BitCounts → ℕ
most_of bits = max bits.blue (max bits.green bits.red)

-- none
abbrev pub no_counts : BitCounts
no_counts = record { blue = 0; green = 0; red = 0 }

-- of a lane's bits those before a place, or all that it has
abbrev pub counts_to : ℕ → BitCounts → BitCounts
counts_to at bits = record { blue = min bits.blue at; green = min bits.green at; red = min bits.red at }

-- bytes of which so many bits are the next of a lane from a place on, or as many as it has
pub record IsPiece (bytes : List ℕ) (bits at size : ℕ) (piece : List ℕ) (count : ℕ) : Type 0 where
  pub count_is : count ≡ min (bits - at) size
  pub long : length piece ≡ (count + 7) / 8
  pub same : take count (bytes_bits piece) ≡ take count (drop at (bytes_bits bytes))

-- a lane that was fed so many bits may take these: there are as many, and of a lane that had a part of a byte, or fewer bits than
-- another, no more arrive
pub record MayTake (fed longest : ℕ) (bytes : List ℕ) (bits : ℕ) : Type 0 where
  pub given : bits ≤ 8 * length bytes
  pub whole : (bits ≡ 0) ⊎ (fed % 8 ≡ 0)
  pub going : (bits ≡ 0) ⊎ (fed ≡ longest)

-- the same of three lanes
pub record MayTakeAll (fed : BitCounts) (xs ys zs : List ℕ) (bits : BitCounts) : Type 0 where
  pub blue : MayTake fed.blue (most_of fed) xs bits.blue
  pub green : MayTake fed.green (most_of fed) ys bits.green
  pub red : MayTake fed.red (most_of fed) zs bits.red

abbrev pub MayTakeLanes : BitCounts → CallerLanes → Type 0
MayTakeLanes fed lanes = MayTakeAll fed lanes.blue.now lanes.green.now lanes.red.now lanes.bits

-- no lane has more bits than can be counted
pub record AreFew (fed bits : BitCounts) : Type 0 where
  pub blue : fed.blue + bits.blue < MOST_BITS
  pub green : fed.green + bits.green < MOST_BITS
  pub red : fed.red + bits.red < MOST_BITS

-- of each lane so many bits were fed
pub record AreFed (fed : ℕ → ℕ) (bits : BitCounts) : Type 0 where
  pub blue : fed 0 ≡ bits.blue
  pub green : fed 1 ≡ bits.green
  pub red : fed 2 ≡ bits.red

-- so many bits more
abbrev pub plus : BitCounts → BitCounts → BitCounts
plus a b = record { blue = a.blue + b.blue; green = a.green + b.green; red = a.red + b.red }

-- lanes after so many bits more of those that are lent
abbrev pub grown_first : BitCounts → Fed → List ℕ → List ℕ → List ℕ → Fed
grown_first taken fed blue green red = grown fed blue green red (taken.blue ∷ taken.green ∷ taken.red ∷ [])

abbrev pub grown_to : BitCounts → Fed → CallerLanes → Fed
grown_to taken fed lanes = grown_first taken fed lanes.blue.now lanes.green.now lanes.red.now
