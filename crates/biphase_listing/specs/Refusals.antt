-- Why bytes are no list of frames.
use Rattle.std.specs.Prelude.{◌≡◌, ℕ, ◌+◌, ◌*◌, ◌/◌, ◌%◌, ◌<◌, ◌≤◌, List, length, take}
use Rattle.audio_packets.specs.declared.sample.Sample.{Sample}
use Rattle.biphase_listing.specs.Groups.{AreFrames, IsSideAt, most_frames}
use Rattle.biphase_listing.specs.declared.fault.BiphaseFault.{BiphaseFault}
use Rattle.biphase_listing.specs.declared.fault.BiphaseFault.TheVariants.{Subframe, Long, Short}

-- group n is whole, is one of the first frames, and is the first that is no subframe of its side
pub record IsBad (bytes : List ℕ) (n : ℕ) : Type 0 where
  pub whole : 8 * n + 8 ≤ length bytes
  pub few : n < 2 * most_frames
  pub bad : IsSideAt bytes n → ⊥
  pub first : (m : ℕ) → m < n → IsSideAt bytes m

-- there are as many frames as there may be, and a byte more
pub record IsLong (bytes : List ℕ) : Type 0 where
  pub more : 16 * most_frames < length bytes
  pub good : (m : ℕ) → m < 2 * most_frames → IsSideAt bytes m

-- there are p bytes, which are not whole frames, though each whole group is a subframe of its side
pub record IsShort (bytes : List ℕ) (p : ℕ) : Type 0 where
  pub length_is : p ≡ length bytes
  pub few : length bytes ≤ 16 * most_frames
  pub ragged : p % 16 ≡ 0 → ⊥
  pub good : (m : ℕ) → 8 * m + 8 ≤ p → IsSideAt bytes m

abbrev pub IsFault : List ℕ → BiphaseFault → Type 0
IsFault bytes (Subframe n) = IsBad bytes n
IsFault bytes Long = IsLong bytes
IsFault bytes (Short p) = IsShort bytes p

-- how many whole frames stand before
abbrev pub frames_before : BiphaseFault → ℕ
frames_before (Subframe n) = n / 2
frames_before Long = most_frames
frames_before (Short p) = p / 16

-- bytes are refused, after the frames of these samples
pub record IsRefused (bytes : List ℕ) (fault : BiphaseFault) (samples : List Sample) : Type 0 where
  pub faulty : IsFault bytes fault
  pub count : length samples ≡ frames_before fault
  pub frames : AreFrames samples (take (16 * frames_before fault) bytes)
