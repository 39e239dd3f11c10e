-- Samples of two channels as frames of two subframes (IEC 60958-1, sections 4.1 and 4.3).
use Rattle.std.specs.Prelude.{◌≡◌, ℕ, Bool, List, [], ◌∷◌, ◌++◌, Option, Some, None, if◌then◌else◌}
use Rattle.std.specs.List.{list_any, flat_map}
use Rattle.audio_packets.specs.declared.sample.Sample.{Sample}
use Rattle.audio_out.specs.Subframes.{subframe_bytes}
use Rattle.audio_out.specs.declared.subframe.Mark.TheVariants.{B, M, W}
use Rattle.audio_out.specs.declared.subframe.Subframe.{Subframe}

-- the first subframe of a sample's frame has the left side: B where a block starts, else M
abbrev pub left_side : Sample → Subframe
left_side s = record { mark = if s.start then B else M; value = s.left; flags = s.left_flags }

-- the second one the right side
abbrev pub right_side : Sample → Subframe
right_side s = record { mark = W; value = s.right; flags = s.right_flags }

unfoldable pub frame_bytes : Sample → List ℕ
frame_bytes s = subframe_bytes (left_side s) ++ subframe_bytes (right_side s)

-- the samples from the first on that starts a block
unfoldable pub from_start : List Sample → List Sample
from_start [] = []
from_start (s ∷ later) = if s.start then s ∷ later else from_start later

-- the biphase stream of samples: the frames of those from the first block's start on
unfoldable pub biphase : List Sample → List ℕ
biphase samples = flat_map frame_bytes (from_start samples)

-- what an encoder knows of the samples that it took: whether one of them starts a block
abbrev pub IsEncoderAfter : Bool → List Sample → Type 0
IsEncoderAfter started past = started ≡ list_any (λ s. s.start) past

-- the bytes of an answer
abbrev pub bytes_in : Option (List ℕ) → List ℕ
bytes_in None = []
bytes_in (Some bytes) = bytes
