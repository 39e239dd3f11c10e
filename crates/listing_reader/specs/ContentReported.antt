-- What the reader of a content listing keeps of the lines that it has taken.
use Rattle.std.specs.Prelude.{ℕ, ◌+◌, ◌≤◌, Bool, true, false, List, [], ◌∷◌, length}
use Rattle.audio_packets.specs.declared.sample.Sample.{Sample}
use Rattle.source_end.specs.Content.{Frame, empty_frame}

-- all frames but the last, and the last
unfoldable pub first_frames : List Frame → List Frame
first_frames [] = []
first_frames (f ∷ []) = []
first_frames (f ∷ (g ∷ frames)) = f ∷ first_frames (g ∷ frames)

unfoldable pub last_frame : List Frame → Frame
last_frame [] = empty_frame
last_frame (f ∷ []) = f
last_frame (f ∷ (g ∷ frames)) = last_frame (g ∷ frames)

-- whole frames, where the last one may still be open, and that one
abbrev pub whole_frames : Bool → List Frame → List Frame
whole_frames true frames = first_frames frames
whole_frames false frames = frames

abbrev pub open_frame : Bool → List Frame → Frame
open_frame true frames = last_frame frames
open_frame false frames = empty_frame

-- how many packets samples make that still lack one
abbrev pub pending : List Sample → ℕ
pending [] = 0
pending (s ∷ samples) = 1

-- a frame that is still open has a row or a packet
abbrev pub IsOpened : Bool → List Frame → ℕ → ℕ → Type 0
IsOpened true frames rows packets = (1 ≤ length frames) × (1 ≤ rows + packets)
IsOpened false frames rows packets = Unit {0}
