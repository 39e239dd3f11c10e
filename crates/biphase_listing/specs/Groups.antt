-- Bytes as frames of two subframes: the left one begins with B where a block starts, else with M, and the right one with W
-- (IEC 60958-1, section 4.1).
use Rattle.std.specs.Prelude.{◌≡◌, ℕ, ◌*◌, ◌%◌, ◌≤◌, ◌==◌, Bool, true, false, List, All, flat_map, length, take, drop}
use Rattle.audio_packets.specs.Samples.{IsSample}
use Rattle.audio_packets.specs.declared.sample.Sample.{Sample}
use Rattle.audio_out.specs.Frames.{frame_bytes}
use Rattle.audio_out.specs.Subframes.{IsSubframe}
use Rattle.audio_out.specs.declared.subframe.Mark.{Mark}
use Rattle.audio_out.specs.declared.subframe.Mark.TheVariants.{B, M, W}
use Rattle.audio_out.specs.declared.subframe.Subframe.{Subframe}

-- no list of frames has more: 16 bytes for each, and one byte more is below 2 ^ 32
abbrev pub most_frames : ℕ
most_frames = 268435455

abbrev pub is_right : Mark → Bool
is_right B = false
is_right M = false
is_right W = true

abbrev pub is_block : Mark → Bool
is_block B = true
is_block M = false
is_block W = false

-- bytes are a subframe of a side
abbrev pub IsSide : Bool → List ℕ → Type 0
IsSide right group = (sub : Subframe) × IsSubframe sub group × (is_right sub.mark ≡ right)

-- groups of eight bytes, counted from 0: those of even number are left sides, the others right ones
abbrev pub group_at : List ℕ → ℕ → List ℕ
group_at bytes n = take 8 (drop (8 * n) bytes)

abbrev pub IsSideAt : List ℕ → ℕ → Type 0
IsSideAt bytes n = IsSide (n % 2 == 1) (group_at bytes n)

-- a sample that a frame carries: nothing is said of flat lines
pub record IsCarried (sample : Sample) : Type 0 where
  pub sound : IsSample sample
  pub flat : sample.flat ≡ false

-- the sample of two sides
abbrev pub sample_of : Subframe → Subframe → Sample
sample_of left right = record {
  left = left.value;
  right = right.value;
  left_flags = left.flags;
  right_flags = right.flags;
  start = is_block left.mark;
  flat = false;
}

-- bytes are the frames of these samples
pub record AreFrames (samples : List Sample) (bytes : List ℕ) : Type 0 where
  pub carried : All IsCarried samples
  pub bytes_are : bytes ≡ flat_map frame_bytes samples

-- and there are not too many
pub record IsStream (samples : List Sample) (bytes : List ℕ) : Type 0 where
  pub frames : AreFrames samples bytes
  pub few : length samples ≤ most_frames
