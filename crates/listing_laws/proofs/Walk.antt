-- What is listed of reported events is what their columns, lines and gaps say.
use Rattle.std.proofs.Common.{◌≡◌, ℕ, zero, suc, ◌/◌, Bool, true, false, ◌&&◌, if◌then◌else◌, List, [], ◌∷◌, ◌++◌, length, reverse, filter_map, Option, Some, None, refl, sym, ap, ap₂, subst, ◌∙◌, append-nil, arith}
use Rattle.period_grammar.specs.Events.{Event, run, line, word, short, preamble, noise, empty, code, long_line, cut, open_island, packet, close_island, symbols, mended, lost, long_island, broken, guard}
use Rattle.frame_build.specs.FrameEvent.{FrameEvent, run as run_frame_event, line as line_frame_event, word_fault, other, vsync_of, marks, marks_of}
use Rattle.frame_build.specs.Change.{heard_at, last_heard, newer, differ, is_change}
use Rattle.frame_build.specs.Group.{width_of, group, counts, is_unlike, reported_count}
use Rattle.frame_build.specs.declared.LineNote.{LineNote}
use Rattle.frame_build.proofs.Groups.{reverse-more, counts-more, group-more, group-changed}
use Rattle.listing_writer.specs.ContentText.{frame_event_of}
use Rattle.listing_writer.specs.Listed.{Listed, listed_rows, listed_at, listed_from}
use Rattle.listing_laws.proofs.Machine.{pixels, parted, ticks_of, ticks, State, turned, hears, run_marks, heard_after, run_state, ends, run_said, note_of, step, after, says, says_append, run_after, run_says}

-- the state is that after these events
pub record Stands (s : State) (reported : List FrameEvent) : Type 0 where
  pub marks : s.marks ≡ marks (reverse reported)
  pub heard : s.heard ≡ last_heard (reverse reported)
  pub counting : s.counting ≡ counts reported
  pub group : s.group ≡ group reported

pub at_first : Stands (record { marks = []; heard = None; counting = false; group = [] }) []
at_first = record { marks = refl; heard = refl; counting = refl; group = refl }

-- one more event that is no change
still : (reported : List FrameEvent) (e : FrameEvent) (s t : State) → Stands s reported → is_change e (reverse reported) ≡ false → t.marks ≡ marks_of e ++ s.marks
    → t.heard ≡ newer (heard_at e (reverse reported)) s.heard → t.counting ≡ s.counting → t.group ≡ s.group ++ filter_map width_of (e ∷ []) → Stands t (reported ++ e ∷ [])
still reported e s t was same ms h c g = grind (arith, reverse-more, counts-more, group-more)

by_change : (reported : List FrameEvent) (value n : ℕ) (s : State) (h : Option Bool) (c : Bool) → Stands s reported → heard_at (run_frame_event value n) (reverse reported) ≡ h
    → is_change (run_frame_event value n) (reverse reported) ≡ c → Stands (turned c (run_marks (vsync_of value) n s.marks) (newer h s.heard) s) (reported ++ run_frame_event value n ∷ [])
by_change reported value n s h true was is e = grind (arith, turned, run_marks, reverse-more, counts-more, group-changed)
by_change reported value n s h false was is e =
    still reported (run_frame_event value n) s (turned false (run_marks (vsync_of value) n s.marks) (newer h s.heard) s) was e refl (ap (λ (x : Option Bool). newer x s.heard) (sym is)) refl (sym (append-nil s.group))

if_hears : (t b : Bool) → (if true && t then Some b else None) ≡ hears t b
if_hears t b = grind arith

heard_here : (reported : List FrameEvent) (value n : ℕ) (s : State) → Stands s reported → heard_at (run_frame_event value (suc n)) (reverse reported) ≡ heard_after (vsync_of value) (suc n) s
heard_here reported value n s was = grind (arith, hears, run_marks, if_hears)

changed_here : (reported : List FrameEvent) (value n : ℕ) (s : State) → Stands s reported → is_change (run_frame_event value (suc n)) (reverse reported) ≡ differ (heard_after (vsync_of value) (suc n) s) s.heard
changed_here reported value n s was = ap₂ differ (heard_here reported value n s was) (sym was.heard)

run_stands : (reported : List FrameEvent) (value n : ℕ) (s : State) → Stands s reported → Stands (run_state (vsync_of value) n s) (reported ++ run_frame_event value n ∷ [])
run_stands reported value zero s was = still reported (run_frame_event value 0) s s was refl refl refl refl (sym (append-nil s.group))
run_stands reported value (suc n) s was =
    by_change reported value (suc n) s (heard_after (vsync_of value) (suc n) s) (differ (heard_after (vsync_of value) (suc n) s) s.heard) was (heard_here reported value n s was) (changed_here reported value n s was)

run_listed : (reported : List FrameEvent) (value n : ℕ) (s : State) → Stands s reported → listed_at reported (run value n) ≡ run_said (vsync_of value) n s
unfolding frame_event_of
run_listed reported value n s h = grind (arith, ends, changed_here, heard_after)

abbrev note_with : Bool → List ℕ → ℕ → LineNote
note_with c g width = record { counts = c; ragged = c && is_unlike g width; row = reported_count (length g) }

line_listed : (reported : List FrameEvent) (bytes : List ℕ) (s : State) → Stands s reported → listed_at reported (line bytes) ≡ listed_rows bytes (note_of s (length bytes / 3)) ++ []
unfolding frame_event_of
line_listed reported bytes s was =
    ap₂ (λ (c : Bool) (g : List ℕ). listed_rows bytes (note_with c g (length bytes / 3))) (sym was.counting) (sym was.group) ∙ sym (append-nil _)

line_stands : (reported : List FrameEvent) (bytes : List ℕ) (s : State) → Stands s reported → Stands (step (pixels bytes) s) (reported ++ line_frame_event (length bytes / 3) ∷ [])
line_stands reported bytes s was = still reported (line_frame_event (length bytes / 3)) s (step (pixels bytes) s) was refl refl refl refl refl

other_stands : (reported : List FrameEvent) (s : State) → Stands s reported → Stands (step parted s) (reported ++ other ∷ [])
other_stands reported s was = still reported other s (step parted s) was refl refl refl refl (sym (append-nil s.group))

word_stands : (reported : List FrameEvent) (s : State) → Stands s reported → Stands s (reported ++ word_fault ∷ [])
word_stands reported s was = still reported word_fault s s was refl refl refl refl (sym (append-nil s.group))

pub record IsStep (reported : List FrameEvent) (t : Event) (s : State) : Type 0 where
  pub stands : Stands (after (ticks_of t) s) (reported ++ frame_event_of t ∷ [])
  pub lists : listed_at reported t ≡ says (ticks_of t) s

one_step : (reported : List FrameEvent) (t : Event) (s : State) → Stands s reported → IsStep reported t s
unfolding after says frame_event_of
one_step reported (run value n) s was = record {
  stands = subst (λ (x : State). Stands x (reported ++ run_frame_event value n ∷ [])) (sym (run_after (vsync_of value) n s)) (run_stands reported value n s was);
  lists = run_listed reported value n s was ∙ sym (run_says (vsync_of value) n s);
}
one_step reported (line bytes) s was = record { stands = line_stands reported bytes s was; lists = line_listed reported bytes s was }
one_step reported (word lane j) s was = record { stands = word_stands reported s was; lists = refl }
one_step reported (short j) s was = record { stands = other_stands reported s was; lists = refl }
one_step reported (preamble j) s was = record { stands = other_stands reported s was; lists = refl }
one_step reported (noise j) s was = record { stands = other_stands reported s was; lists = refl }
one_step reported (empty j) s was = record { stands = other_stands reported s was; lists = refl }
one_step reported (code lane j) s was = record { stands = other_stands reported s was; lists = refl }
one_step reported (long_line j) s was = record { stands = other_stands reported s was; lists = refl }
one_step reported (cut j) s was = record { stands = other_stands reported s was; lists = refl }
one_step reported (open_island first second) s was = record { stands = other_stands reported s was; lists = refl }
one_step reported (packet p verdicts j) s was = record { stands = other_stands reported s was; lists = refl }
one_step reported (close_island first second) s was = record { stands = other_stands reported s was; lists = refl }
one_step reported (symbols j count) s was = record { stands = other_stands reported s was; lists = refl }
one_step reported (mended j block bit) s was = record { stands = other_stands reported s was; lists = refl }
one_step reported (lost j block) s was = record { stands = other_stands reported s was; lists = refl }
one_step reported (long_island j) s was = record { stands = other_stands reported s was; lists = refl }
one_step reported (broken j) s was = record { stands = other_stands reported s was; lists = refl }
one_step reported (guard j) s was = record { stands = other_stands reported s was; lists = refl }

pub walk : (reported : List FrameEvent) (events : List Event) (s : State) → Stands s reported → listed_from reported events ≡ says (ticks events) s
unfolding listed_from ticks says
walk reported [] s was = refl
walk reported (t ∷ events) s was =
    let o = one_step reported t s was in
    ap₂ (λ (xs ys : List Listed). xs ++ ys) o.lists (walk (reported ++ frame_event_of t ∷ []) events (after (ticks_of t) s) o.stands) ∙ sym (says_append (ticks_of t) (ticks events) s)

-- nothing was heard yet
abbrev pub fresh : State
fresh = record { marks = []; heard = None; counting = false; group = [] }

pub listed_ticks : (events : List Event) → listed_from [] events ≡ says (ticks events) fresh
listed_ticks events = walk [] events fresh at_first
