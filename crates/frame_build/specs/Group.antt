-- Groups of lines between changes, and what is said of them. `reported` is all that was reported, the oldest first.
use Rattle.std.specs.Prelude.{◌≡◌, ◌++◌, ℕ, ◌-◌, ◌^◌, ◌==◌, min, Bool, false, not, ◌&&◌, List, [], ◌∷◌, length, reverse, filter_map, Option, Some, None, if◌then◌else◌}
use Rattle.frame_build.specs.FrameEvent.{FrameEvent, run, line, word_fault, other}
use Rattle.frame_build.specs.Change.{changes_at, has_change, since_change, IsBetweenChanges}
use Rattle.frame_build.specs.declared.FrameNote.{FrameNote}
use Rattle.frame_build.specs.declared.LineNote.{LineNote}

abbrev pub width_of : FrameEvent → Option ℕ
width_of (line width) = Some width
width_of (run value count) = None
width_of word_fault = None
width_of other = None

-- the widths of the lines among these events
abbrev pub widths : List FrameEvent → List ℕ
widths reported = filter_map width_of reported

-- the group: the widths of the lines reported since the last change, or since the start, the first line first
abbrev pub group : List FrameEvent → List ℕ
group reported = widths (reverse (since_change (reverse reported)))

-- whether the group counts: a change was heard before it
abbrev pub counts : List FrameEvent → Bool
counts reported = has_change (reverse reported)

-- a number of lines, as it is reported: it stops at the greatest `u32`
abbrev pub reported_count : ℕ → ℕ
reported_count lines = min lines (2 ^ 32 - 1)

-- the frame of a group of lines: the first line's width and the number of lines; no lines are no frame
abbrev pub frame_of : List ℕ → Option FrameNote
frame_of [] = None
frame_of (first ∷ later) = Some (record { width = first; height = reported_count (length (first ∷ later)) })

-- the frame reported at an event: that of the group before it, where a change is heard at it and the group counts
abbrev pub frame_at : List FrameEvent → FrameEvent → Option FrameNote
frame_at reported event =
    if changes_at reported event && counts reported then frame_of (group reported) else None

-- the frame is that of the lines between the last change in `reported` and the change at `last`
pub record EndsFrame (reported : List FrameEvent) (last : FrameEvent) (frame : FrameNote) : Type 0 where
  pub before : List FrameEvent
  pub first : FrameEvent
  pub between : List FrameEvent
  pub parts : reported ≡ before ++ first ∷ between
  pub changes : IsBetweenChanges before first between last
  pub frame_is : frame_of (widths between) ≡ Some frame

-- whether a line of this width is not as wide as the first line of the group that it joins
abbrev pub is_unlike : List ℕ → ℕ → Bool
is_unlike [] width = false
is_unlike (first ∷ later) width = not (width == first)

-- what is said of a line that is reported next
abbrev pub line_at : List FrameEvent → ℕ → LineNote
line_at reported width =
    record {
      counts = counts reported;
      ragged = counts reported && is_unlike (group reported) width;
      row = reported_count (length (group reported));
    }
