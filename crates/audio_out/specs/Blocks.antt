-- Channel status: the C bits of the 192 frames of a block, on each side (IEC 60958-1, section 4.1, and 60958-3, section 5).
use Rattle.std.specs.Prelude.{◌≡◌, Bool, not, ◌&&◌, List, [], ◌∷◌, length, map, Option, Some, None, ◌==◌, nat_le, if◌then◌else◌}
use Rattle.std.specs.List.{list_any}
use Rattle.bch_block.specs.Bits.{bit}
use Rattle.tmds_word.specs.Bits.{bytes_of, number}
use Rattle.audio_packets.specs.declared.sample.Sample.{Sample}
use Rattle.audio_out.specs.declared.blocks.BlockStatus.{BlockStatus}

abbrev pub left_status : Sample → Bool
left_status s = bit s.left_flags 2

abbrev pub right_status : Sample → Bool
right_status s = bit s.right_flags 2

-- the samples from the last on that starts a block, none where none does: a run of which the first alone starts one
unfoldable pub last_run : List Sample → List Sample
last_run [] = []
last_run (s ∷ later) = if s.start && not (list_any (λ t. t.start) later) then s ∷ later else last_run later

-- the 192 C bits of each side as 24 bytes, the first bit lowest
abbrev pub status_of : List Sample → BlockStatus
status_of run = record { left = bytes_of 24 (number (map left_status run)); right = bytes_of 24 (number (map right_status run)) }

-- the status of the block that a list of samples ends with, where the last sample is its 192nd
unfoldable pub block_of : List Sample → Option BlockStatus
block_of samples = if length (last_run samples) == 192 then Some (status_of (last_run samples)) else None

-- the C bits of a block that has begun
pub record OpenBlock : Type 0 where
  pub left : List Bool
  pub right : List Bool

-- its status, where it is full
abbrev pub full_status : OpenBlock → Option BlockStatus
full_status now =
    if length now.left == 192 then Some (record { left = bytes_of 24 (number now.left); right = bytes_of 24 (number now.right) }) else None

-- the last run, where it has no more than 192 samples
unfoldable pub open_run : List Sample → List Sample
open_run samples = if nat_le (length (last_run samples)) 192 then last_run samples else []

-- what `Blocks` keeps of the samples that it took
pub record IsBlocksAfter (now : OpenBlock) (past : List Sample) : Type 0 where
  pub left : now.left ≡ map left_status (open_run past)
  pub right : now.right ≡ map right_status (open_run past)
