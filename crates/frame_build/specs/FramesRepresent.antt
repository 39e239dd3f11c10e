-- Which lists of reported events the state of a `Frames` stands for.
use Rattle.std.specs.Prelude.{◌≡◌, ℕ, ◌+◌, min, Bool, not, List, [], ◌∷◌, length, reverse, if◌then◌else◌, Option, Some, None}
use Rattle.frame_build.specs.FrameEvent.{FrameEvent, Mark, marks, has_vsync}
use Rattle.frame_build.specs.Change.{last_heard}
use Rattle.frame_build.specs.Group.{group, counts, reported_count}
use Rattle.frame_build.specs.State.{State, Sync, Lines}

-- how many of the newest marks are, without a gap, columns with this VSYNC
abbrev pub streak_of : Bool → List Mark → ℕ
streak_of vsync [] = 0
streak_of vsync (mark ∷ earlier) = if has_vsync vsync mark then streak_of vsync earlier + 1 else 0

-- the numbers are those of `past`, which has the newest event first
pub record IsSyncOf (sync : Sync) (past : List FrameEvent) : Type 0 where
  pub streak : sync.streak ≡ min (streak_of sync.level (marks past)) 3
  pub no_other : streak_of (not sync.level) (marks past) ≡ 0
  pub heard : sync.heard ≡ last_heard past

-- the first line's width, if there is a line
abbrev pub first_of : List ℕ → Option ℕ
first_of [] = None
first_of (first ∷ later) = Some first

-- the numbers are those of a group with these widths
pub record IsGroup (lines : Lines) (is_counting : Bool) (widths : List ℕ) : Type 0 where
  pub counts : lines.counts ≡ is_counting
  pub first : lines.first ≡ first_of widths
  pub count : lines.count ≡ reported_count (length widths)

-- the state is that after all that was reported, the oldest event first
pub record FramesRepresent (state : State) (reported : List FrameEvent) : Type 0 where
  pub sync : IsSyncOf state.sync (reverse reported)
  pub lines : IsGroup state.lines (counts reported) (group reported)
