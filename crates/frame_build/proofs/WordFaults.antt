-- A fault of one word among all that was reported changes nothing. Lists have the newest event first, where none else
-- is said.
use Rattle.std.proofs.Common.{arith, ◌≡◌, ℕ, List, [], ◌∷◌, ◌++◌, Bool, ◌&&◌, ◌||◌, Option, None, if◌then◌else◌, refl, sym, ap, ap₂, ◌∙◌, reverse, append-nil, length}
use Rattle.std.proofs.lemmas.List.{reverse-append}
use Rattle.frame_build.specs.FrameEvent.{FrameEvent, word_fault, Mark, marks_of, marks}
use Rattle.frame_build.specs.Change.{heard_at, last_heard, newer, differ, is_change, has_change, since_change, changes_at}
use Rattle.frame_build.specs.Group.{group, counts, reported_count, frame_of, frame_at, is_unlike, line_at}
use Rattle.frame_build.specs.declared.FrameNote.{FrameNote}
use Rattle.frame_build.specs.declared.LineNote.{LineNote}
use Rattle.frame_build.proofs.Between.{reverse-around}
use Rattle.frame_build.proofs.Groups.{widths_of, widths_of-more}

marks-fault : (later past : List FrameEvent) → marks (later ++ word_fault ∷ past) ≡ marks (later ++ past)
marks-fault [] past = refl
marks-fault (event ∷ later) past = ap (λ (ms : List Mark). marks_of event ++ ms) (marks-fault later past)

heard_at-marks : (event : FrameEvent) (p q : List FrameEvent) → marks p ≡ marks q → heard_at event p ≡ heard_at event q
heard_at-marks event p q h = grind arith

heard_at-fault : (event : FrameEvent) (later past : List FrameEvent) → heard_at event (later ++ word_fault ∷ past) ≡ heard_at event (later ++ past)
heard_at-fault event later past = heard_at-marks event (later ++ word_fault ∷ past) (later ++ past) (marks-fault later past)

last_heard-fault : (later past : List FrameEvent) → last_heard (later ++ word_fault ∷ past) ≡ last_heard (later ++ past)
last_heard-fault [] past = refl
last_heard-fault (event ∷ later) past = ap₂ newer (heard_at-fault event later past) (last_heard-fault later past)

is_change-fault : (event : FrameEvent) (later past : List FrameEvent) → is_change event (later ++ word_fault ∷ past) ≡ is_change event (later ++ past)
is_change-fault event later past = ap₂ differ (heard_at-fault event later past) (last_heard-fault later past)

has_change-fault : (later past : List FrameEvent) → has_change (later ++ word_fault ∷ past) ≡ has_change (later ++ past)
has_change-fault [] past = refl
has_change-fault (event ∷ later) past = ap₂ (λ a b. a || b) (is_change-fault event later past) (has_change-fault later past)

widths_since : (changed : Bool) (event : FrameEvent) (xs ys : List FrameEvent) → widths_of xs ≡ widths_of ys → widths_of (if changed then [] else event ∷ xs) ≡ widths_of (if changed then [] else event ∷ ys)
widths_since changed event xs ys h = grind (arith, widths_of-more)

since_change-fault : (later past : List FrameEvent) → widths_of (since_change (later ++ word_fault ∷ past)) ≡ widths_of (since_change (later ++ past))
since_change-fault [] past = widths_of-more (since_change past) word_fault ∙ append-nil (widths_of (since_change past))
since_change-fault (event ∷ later) past = grind (arith, widths_of, is_change-fault, widths_since, since_change-fault later past)

-- from here on the oldest event is first
counts-fault : (before after : List FrameEvent) → counts (before ++ word_fault ∷ after) ≡ counts (before ++ after)
counts-fault before after =
    ap has_change (reverse-around before word_fault after) ∙ has_change-fault (reverse after) (reverse before) ∙ ap has_change (sym (reverse-append before after))

changes_at-fault : (before after : List FrameEvent) (event : FrameEvent) → changes_at (before ++ word_fault ∷ after) event ≡ changes_at (before ++ after) event
changes_at-fault before after event = grind (arith, reverse-around, is_change-fault, reverse-append)

group-fault : (before after : List FrameEvent) → group (before ++ word_fault ∷ after) ≡ group (before ++ after)
unfolding widths_of
group-fault before after = grind (arith, widths_of, reverse-around, since_change-fault, reverse-append)

pub frame_at-fault : (before after : List FrameEvent) (event : FrameEvent) → frame_at (before ++ word_fault ∷ after) event ≡ frame_at (before ++ after) event
frame_at-fault before after event =
    let frame : Bool → List ℕ → Option FrameNote = λ reported ws. if reported then frame_of ws else None in
    ap₂ frame (ap₂ (λ a b. a && b) (changes_at-fault before after event) (counts-fault before after)) (group-fault before after)

pub line_at-fault : (before after : List FrameEvent) (width : ℕ) → line_at (before ++ word_fault ∷ after) width ≡ line_at (before ++ after) width
line_at-fault before after width =
    let note : Bool → List ℕ → LineNote = λ counting ws. record { counts = counting; ragged = counting && is_unlike ws width; row = reported_count (length ws) } in
    ap₂ note (counts-fault before after) (group-fault before after)
