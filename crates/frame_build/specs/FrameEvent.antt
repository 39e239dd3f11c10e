-- What is reported of a link, as far as frames go, and VSYNC in it.
-- Of the two control bits of lane 0 D0 is HSYNC and D1 is VSYNC (DVI 1.0, and HDMI 1.4, chapter 5). The value of a
-- control column has HSYNC as bit 0, VSYNC as bit 1 and CTL0 to CTL3 as bits 2 to 5.
use Rattle.std.specs.Prelude.{ℕ, ◌/◌, ◌%◌, ◌==◌, Bool, true, false, not, List, [], ◌∷◌, ◌++◌, replicate}

-- one reported event: a run of control columns with its value and its number of columns, a line of so many
-- pixels, a fault of one word, or anything else
pub data FrameEvent : Type 0 where
  run : ℕ → ℕ → FrameEvent
  line : ℕ → FrameEvent
  word_fault : FrameEvent
  other : FrameEvent

-- VSYNC of a control column's value: bit 1
abbrev pub vsync_of : ℕ → Bool
vsync_of value = (value / 2) % 2 == 1

-- what VSYNC sees of a link: a control column with its VSYNC, or a gap between columns
pub data Mark : Type 0 where
  column : Bool → Mark
  gap : Mark

-- a run has a mark for each of its columns; a line and any other event part the columns before them from
-- those after them; a fault of one word does not
abbrev pub marks_of : FrameEvent → List Mark
marks_of (run value count) = replicate count (column (vsync_of value))
marks_of (line width) = gap ∷ []
marks_of word_fault = []
marks_of other = gap ∷ []

-- the marks of all that was reported, both with the newest first
abbrev pub marks : List FrameEvent → List Mark
marks [] = []
marks (event ∷ past) = marks_of event ++ marks past

-- whether this mark is a column with this VSYNC
abbrev pub has_vsync : Bool → Mark → Bool
has_vsync true (column vsync) = vsync
has_vsync false (column vsync) = not vsync
has_vsync _ gap = false
