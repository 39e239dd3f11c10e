-- What a content listing says of pictures: the rows of counting groups and the frames, in the order in which they are
-- reported. What is said of a line, and when a frame is reported, is that of the events before.
use Rattle.std.specs.Prelude.{ℕ, List, [], ◌∷◌, ◌++◌, cond, Option, Some, None}
use Rattle.period_grammar.specs.Events.{Event, line}
use Rattle.frame_build.specs.FrameEvent.{FrameEvent, run as run_frame_event, line as line_frame_event, word_fault, other}
use Rattle.frame_build.specs.Group.{frame_at, line_at}
use Rattle.frame_build.specs.declared.FrameNote.{FrameNote}
use Rattle.frame_build.specs.declared.LineNote.{LineNote}
use Rattle.listing_writer.specs.ContentText.{frame_event_of}

-- a row with what is said of it, or a frame
pub data Listed : Type 0 where
  row : List ℕ → LineNote → Listed
  frame : FrameNote → Listed

abbrev pub listed_frames : Option FrameNote → List Listed
listed_frames None = []
listed_frames (Some note) = frame note ∷ []

-- a line of a group that does not count is not listed
abbrev pub listed_rows : List ℕ → LineNote → List Listed
listed_rows bytes note = cond note.counts (row bytes note ∷ []) []

-- what is listed at an event, of pictures, after what was reported before, the oldest first
abbrev pub listed_by : FrameEvent → List ℕ → List FrameEvent → List Listed
listed_by (run_frame_event value count) bytes reported = listed_frames (frame_at reported (run_frame_event value count))
listed_by (line_frame_event width) bytes reported = listed_rows bytes (line_at reported width)
listed_by word_fault bytes reported = []
listed_by other bytes reported = []

abbrev pub bytes_of : Event → List ℕ
bytes_of (line bytes) = bytes
bytes_of _ = []

abbrev pub listed_at : List FrameEvent → Event → List Listed
listed_at reported event = listed_by (frame_event_of event) (bytes_of event) reported

unfoldable pub listed_from : List FrameEvent → List Event → List Listed
listed_from reported [] = []
listed_from reported (event ∷ events) = listed_at reported event ++ listed_from (reported ++ frame_event_of event ∷ []) events

-- the rows and frames that a content listing of reported events has
abbrev pub listed : List Event → List Listed
listed events = listed_from [] events
