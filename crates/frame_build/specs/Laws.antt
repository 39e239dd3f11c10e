-- What holds of frames and of lines for every list of reported events.
use Rattle.std.specs.Prelude.{◌≡◌, ℕ, List, [], ◌∷◌, ◌++◌, Some}
use Rattle.frame_build.specs.FrameEvent.{FrameEvent, word_fault}
use Rattle.frame_build.specs.Group.{frame_at, line_at, EndsFrame}
use Rattle.frame_build.specs.State.{State}
use Rattle.frame_build.specs.FramesRepresent.{FramesRepresent}
use Rattle.frame_build.specs.declared.FrameNote.{FrameNote}

-- a fault of one word, wherever it is reported, changes no frame that is reported after it
abbrev pub FramesPassOverWordFaults : Type 0
FramesPassOverWordFaults =
    (before after : List FrameEvent) (event : FrameEvent) → frame_at (before ++ word_fault ∷ after) event ≡ frame_at (before ++ after) event

-- nor what is said of a line
abbrev pub LinesPassOverWordFaults : Type 0
LinesPassOverWordFaults =
    (before after : List FrameEvent) (width : ℕ) → line_at (before ++ word_fault ∷ after) width ≡ line_at (before ++ after) width

-- so a state that stands for what was reported before it stands for it too
abbrev pub StatesPassOverWordFaults : Type 0
StatesPassOverWordFaults = (state : State) (reported : List FrameEvent) → FramesRepresent state reported → FramesRepresent state (reported ++ word_fault ∷ [])

-- a frame that is reported is that of the lines between two changes
abbrev pub ReportedFramesLieBetweenChanges : Type 0
ReportedFramesLieBetweenChanges = (reported : List FrameEvent) (last : FrameEvent) (frame : FrameNote) → frame_at reported last ≡ Some frame → EndsFrame reported last frame

-- and each frame between two changes is reported
abbrev pub FramesBetweenChangesAreReported : Type 0
FramesBetweenChangesAreReported = (reported : List FrameEvent) (last : FrameEvent) (frame : FrameNote) → EndsFrame reported last frame → frame_at reported last ≡ Some frame
