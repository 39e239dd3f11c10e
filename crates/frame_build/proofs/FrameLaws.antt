-- What holds of the definitions for every list of reported events.
use Rattle.std.proofs.Common.{arith, ◌≡◌, List, [], ◌∷◌, ◌++◌, Bool, true, ◌&&◌, if◌then◌else◌, Option, Some, None, refl, reverse}
use Rattle.std.proofs.lemmas.List.{reverse-reverse}
use Rattle.frame_build.specs.FrameEvent.{FrameEvent, word_fault}
use Rattle.frame_build.specs.Change.{changes_at}
use Rattle.frame_build.specs.Group.{group, counts, frame_of, frame_at, EndsFrame}
use Rattle.frame_build.specs.State.{State}
use Rattle.frame_build.specs.FramesRepresent.{FramesRepresent}
use Rattle.frame_build.specs.declared.FrameNote.{FrameNote}
use Rattle.frame_build.proofs.Between.{last_change, since_change-unchanged, has_change-after, unchanged-between, between-last, reverse-around}
use Rattle.frame_build.proofs.Groups.{stands-same}

-- a fault of one word changes nothing: what stood for the list before it stands for the list with it
pub word_fault-stands : (state : State) (reported : List FrameEvent) → FramesRepresent state reported → FramesRepresent state (reported ++ word_fault ∷ [])
word_fault-stands state reported stands =
    stands-same state.sync state.lines reported word_fault refl refl
    (record { streak = stands.sync.streak; no_other = stands.sync.no_other; heard = stands.sync.heard })
    stands.lines

some_if : Bool → Option FrameNote → Option FrameNote
some_if reported frame = if reported then frame else None

is_reported : (reported : Bool) (frame : Option FrameNote) (f : FrameNote) → some_if reported frame ≡ Some f → (reported ≡ true) × (frame ≡ Some f)
unfolding some_if
is_reported reported frame f h = grind arith

both_true : (a b : Bool) → (a && b) ≡ true → (a ≡ true) × (b ≡ true)
both_true a b h = grind arith

-- a frame that is reported is that of the lines between two changes
pub EndsFrame-reported : (reported : List FrameEvent) (last : FrameEvent) (frame : FrameNote) → frame_at reported last ≡ Some frame → EndsFrame reported last frame
unfolding some_if
EndsFrame-reported reported last frame is =
    let parts = is_reported (changes_at reported last && counts reported) (frame_of (group reported)) frame is in
    let changes = both_true (changes_at reported last) (counts reported) parts.0 in
    let was = last_change (reverse reported) changes.1 in
    let between = between-last reported last was changes.0 in
    record {
      before = reverse was.older;
      first = was.first;
      between = reverse was.later;
      parts = between.0;
      changes = between.1;
      frame_is = grind (arith, since_change-unchanged);
    }

-- and that of the lines between two changes is reported
pub frame_at-ends : (reported : List FrameEvent) (last : FrameEvent) (frame : FrameNote) → EndsFrame reported last frame → frame_at reported last ≡ Some frame
unfolding some_if
frame_at-ends reported last frame ends = grind (arith, reverse-around, unchanged-between, since_change-unchanged, has_change-after, reverse-reverse)
