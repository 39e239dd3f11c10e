-- One reported event more.
use Rattle.std.proofs.Common.{arith, ◌≡◌, ℕ, List, [], ◌∷◌, ◌++◌, Bool, true, false, ◌||◌, if◌then◌else◌, reverse, filter_map, ap, ◌∙◌, append-nil}
use Rattle.std.proofs.lemmas.List.{reverse-append}
use Rattle.std.proofs.lemmas.List.Elements.{filter_map-append}
use Rattle.frame_build.specs.FrameEvent.{FrameEvent}
use Rattle.frame_build.specs.Change.{is_change, has_change, since_change}
use Rattle.frame_build.specs.Group.{width_of, group, counts}
use Rattle.frame_build.specs.State.{Sync, Lines}
use Rattle.frame_build.specs.FramesRepresent.{FramesRepresent, IsSyncOf, IsGroup}

-- the newest event is first
pub reverse-more : (reported : List FrameEvent) (event : FrameEvent) → reverse (reported ++ event ∷ []) ≡ event ∷ reverse reported
reverse-more reported event = reverse-append reported (event ∷ [])

pub counts-more : (reported : List FrameEvent) (event : FrameEvent) → counts (reported ++ event ∷ []) ≡ (is_change event (reverse reported) || counts reported)
counts-more reported event = ap has_change (reverse-more reported event)

-- the lines of what is reported since the last change
unfoldable pub widths_of : List FrameEvent → List ℕ
widths_of past = filter_map width_of (reverse past)

pub widths_of-more : (past : List FrameEvent) (event : FrameEvent) → widths_of (event ∷ past) ≡ widths_of past ++ filter_map width_of (event ∷ [])
unfolding widths_of
widths_of-more past event =
    ap (λ (xs : List FrameEvent). filter_map width_of xs) (reverse-append (event ∷ []) past) ∙ filter_map-append width_of (reverse past) (event ∷ [])

since_more : (changed : Bool) (event : FrameEvent) (past : List FrameEvent) → List FrameEvent
since_more changed event past = if changed then [] else event ∷ since_change past

group-since : (reported : List FrameEvent) (event : FrameEvent) → group (reported ++ event ∷ []) ≡ widths_of (since_more (is_change event (reverse reported)) event (reverse reported))
unfolding widths_of since_more
group-since reported event = ap (λ (past : List FrameEvent). filter_map width_of (reverse (since_change past))) (reverse-more reported event)

-- at a change the group is empty
pub group-changed : (reported : List FrameEvent) (event : FrameEvent) → is_change event (reverse reported) ≡ true → group (reported ++ event ∷ []) ≡ []
unfolding widths_of since_more
group-changed reported event changed = group-since reported event ∙ ap (λ (b : Bool). widths_of (since_more b event (reverse reported))) changed

-- elsewhere it grows by the event's line, if it is one
pub group-more : (reported : List FrameEvent) (event : FrameEvent) → is_change event (reverse reported) ≡ false → group (reported ++ event ∷ []) ≡ group reported ++ filter_map width_of (event ∷ [])
unfolding widths_of since_more
group-more reported event same =
    group-since reported event ∙ ap (λ (b : Bool). widths_of (since_more b event (reverse reported))) same ∙ widths_of-more (since_change (reverse reported)) event

-- a state stands for a list with one event more
pub stands-more : (sync : Sync) (lines : Lines) (reported : List FrameEvent) (event : FrameEvent) (counting : Bool) (widths : List ℕ) → IsSyncOf sync (event ∷ reverse reported) → IsGroup lines counting widths → counts (reported ++ event ∷ []) ≡ counting → group (reported ++ event ∷ []) ≡ widths → FramesRepresent (record { sync = sync; lines = lines }) (reported ++ event ∷ [])
stands-more sync lines reported event counting widths in_sync in_lines counting_is widths_are = grind (arith, reverse-more)

-- an event that changes nothing and is no line
pub stands-same : (sync : Sync) (lines : Lines) (reported : List FrameEvent) (event : FrameEvent) → is_change event (reverse reported) ≡ false → filter_map width_of (event ∷ []) ≡ [] → IsSyncOf sync (event ∷ reverse reported) → IsGroup lines (counts reported) (group reported) → FramesRepresent (record { sync = sync; lines = lines }) (reported ++ event ∷ [])
stands-same sync lines reported event same no_line in_sync in_lines =
    stands-more sync lines reported event (counts reported) (group reported) in_sync in_lines
    (counts-more reported event ∙ ap (λ (b : Bool). b || counts reported) same)
    (group-more reported event same ∙ ap (λ (xs : List ℕ). group reported ++ xs) no_line ∙ append-nil (group reported))
