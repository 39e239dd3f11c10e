-- What a team has of its three lanes, and what a feed adds to it.
use Rattle.std.specs.Prelude.{◌≡◌, ℕ, ◌+◌, ◌/◌, ◌%◌, ◌^◌, ◌<◌, ◌≤◌, ◌++◌, ◌⊎◌, Bool, List, [], length, take, slice_index, None}
use Rattle.std.proofs.Common.{suc, zero}
use Rattle.tmds_word.specs.Bits.{bytes_bits}
use Rattle.tmds_word.specs.declared.lane_bits.LaneBits.{LaneBits}
use Rattle.lane_align.specs.Words.{AreWords, lane_words}
use Rattle.lane_align.specs.declared.TheConstants.{FEED_BITS}
use Rattle.lane_align.specs.Aligners.{AlignerRepresents, fed_of, lock_of}
use Rattle.lane_align.specs.declared.aligner.LaneAligner.{LaneAligner}

-- a lane: its aligner, and the characters that its last feed gave
pub record Side : Type 0 where
  pub aligner : LaneAligner
  pub words : List ℕ

pub record Sides : Type 0 where
  pub blue : Side
  pub green : Side
  pub red : Side

-- one of the lanes
abbrev pub side_at : Sides → ℕ → Side
side_at sides zero = sides.blue
side_at sides (suc zero) = sides.green
side_at sides (suc (suc n)) = sides.red

-- no bit was fed to a lane
pub record IsFresh (side : Side) : Type 0 where
  pub stands : AlignerRepresents side.aligner []
  pub fed : fed_of side.aligner ≡ 0
  pub lock : lock_of side.aligner ≡ None
  pub words : side.words ≡ []

pub record AreFresh (sides : Sides) : Type 0 where
  pub blue : IsFresh sides.blue
  pub green : IsFresh sides.green
  pub red : IsFresh sides.red

-- what an aligner asks of a feed
pub record CanTake (side : Side) (bytes : List ℕ) (bits : ℕ) : Type 0 where
  pub most : bits ≤ FEED_BITS
  pub bytes_given : length bytes ≡ (bits + 7) / 8
  pub whole : (bits ≡ 0) ⊎ (fed_of side.aligner % 8 ≡ 0)
  pub total : fed_of side.aligner + bits < 2 ^ 63

-- a lane was fed: its aligner and its characters are those that an aligner of its own gives for the same feed
pub record HasTaken (old : Side) (bytes : List ℕ) (bits : ℕ) (new : Side) : Type 0 where
  pub fed : fed_of new.aligner ≡ fed_of old.aligner + bits
  pub few : length new.words ≤ bits / 10 + 13
  pub small : AreWords new.words
  pub stands : (xs : List Bool) → AlignerRepresents old.aligner xs → AlignerRepresents new.aligner (xs ++ take bits (bytes_bits bytes))
  pub words : (xs : List Bool) → AlignerRepresents old.aligner xs
      → lane_words (lock_of old.aligner) xs ++ new.words ≡ lane_words (lock_of new.aligner) (xs ++ take bits (bytes_bits bytes))

-- the same of each of three lanes
pub record CanTakeLanes (sides : Sides) (lanes : LaneBits) : Type 0 where
  pub blue : CanTake sides.blue lanes.blue.now (slice_index lanes.bits 0)
  pub green : CanTake sides.green lanes.green.now (slice_index lanes.bits 1)
  pub red : CanTake sides.red lanes.red.now (slice_index lanes.bits 2)

pub record HaveTaken (old : Sides) (lanes : LaneBits) (new : Sides) : Type 0 where
  pub blue : HasTaken old.blue lanes.blue.now (slice_index lanes.bits 0) new.blue
  pub green : HasTaken old.green lanes.green.now (slice_index lanes.bits 1) new.green
  pub red : HasTaken old.red lanes.red.now (slice_index lanes.bits 2) new.red
