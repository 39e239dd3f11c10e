-- Where a VSYNC change is heard. `past` is all that was reported before, the newest first.
-- That it takes three columns in a row is a rule of this project: one or two neighbouring wrong words make no change.
use Rattle.std.specs.Prelude.{◌≡◌, ◌++◌, IsTrue, Bool, true, false, not, ◌&&◌, ◌||◌, nat_lt, List, [], ◌∷◌, reverse, Option, Some, None, if◌then◌else◌}
use Rattle.frame_build.specs.FrameEvent.{FrameEvent, run, line, word_fault, other, vsync_of, Mark, marks, has_vsync}

-- whether the three newest marks are columns with this VSYNC
abbrev pub three_have : Bool → List Mark → Bool
three_have vsync (a ∷ b ∷ c ∷ earlier) = has_vsync vsync a && has_vsync vsync b && has_vsync vsync c
three_have vsync _ = false

-- the VSYNC value heard at an event: that of a run with columns, if by its end three columns in a row have it (a run's
-- columns are alike, so they have it by its end if they have it by any column of it)
abbrev pub heard_at : FrameEvent → List FrameEvent → Option Bool
heard_at (run value count) past =
    if nat_lt 0 count && three_have (vsync_of value) (marks (run value count ∷ past)) then Some (vsync_of value) else None
heard_at (line width) past = None
heard_at word_fault past = None
heard_at other past = None

-- the second, where the first is none
abbrev pub newer : Option Bool → Option Bool → Option Bool
newer (Some vsync) earlier = Some vsync
newer None earlier = earlier

-- the last VSYNC value that was heard
abbrev pub last_heard : List FrameEvent → Option Bool
last_heard [] = None
last_heard (event ∷ past) = newer (heard_at event past) (last_heard past)

-- whether both are there, and differ
abbrev pub differ : Option Bool → Option Bool → Bool
differ (Some true) (Some vsync) = not vsync
differ (Some false) (Some vsync) = vsync
differ _ _ = false

-- a change: a value is heard that is not the last one heard before; so the first one heard is no change
abbrev pub is_change : FrameEvent → List FrameEvent → Bool
is_change event past = differ (heard_at event past) (last_heard past)

-- whether a change was heard
abbrev pub has_change : List FrameEvent → Bool
has_change [] = false
has_change (event ∷ past) = is_change event past || has_change past

-- what was reported since the last change, or since the start, the newest first
abbrev pub since_change : List FrameEvent → List FrameEvent
since_change [] = []
since_change (event ∷ past) = if is_change event past then [] else event ∷ since_change past

-- whether a change is heard at an event that is reported after `reported`, which has the oldest first
abbrev pub changes_at : List FrameEvent → FrameEvent → Bool
changes_at reported event = is_change event (reverse reported)

-- `between` lies between two changes: one is heard at `first`, which is reported after `before`, the next at `last`
pub record IsBetweenChanges (before : List FrameEvent) (first : FrameEvent) (between : List FrameEvent) (last : FrameEvent) : Type 0 where
  pub opens : IsTrue (changes_at before first)
  pub unchanged : (front : List FrameEvent) (event : FrameEvent) (back : List FrameEvent) → between ≡ front ++ event ∷ back → changes_at (before ++ first ∷ front) event ≡ false
  pub closes : IsTrue (changes_at (before ++ first ∷ between) last)
