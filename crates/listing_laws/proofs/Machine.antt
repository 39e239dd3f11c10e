-- The rows and frames of a list of reported events, column by column: a run of columns is each of them by itself, so
-- what is listed follows the columns of lines and not the runs of control periods.
use Rattle.std.proofs.Common.{arith, ◌≡◌, ℕ, zero, suc, ◌/◌, Bool, true, false, ◌&&◌, if◌then◌else◌, List, [], ◌∷◌, ◌++◌, length, replicate, Option, Some, None, refl, sym, ap, ◌∙◌, append_assoc, append-nil}
use Rattle.period_grammar.specs.Events.{Event, run, line, word, short, preamble, noise, empty, code, long_line, cut, open_island, packet, close_island, symbols, mended, lost, long_island, broken, guard}
use Rattle.frame_build.specs.FrameEvent.{vsync_of, Mark, column, gap}
use Rattle.frame_build.specs.Change.{three_have, newer, differ}
use Rattle.frame_build.specs.Group.{frame_of, is_unlike, reported_count}
use Rattle.frame_build.specs.declared.LineNote.{LineNote}
use Rattle.listing_writer.specs.Listed.{Listed, listed_frames, listed_rows}

-- what frames see of a reported event: each column of a run, a line, or a gap
pub data Tick : Type 0 where
  control : Bool → Tick
  pixels : List ℕ → Tick
  parted : Tick

abbrev pub ticks_of : Event → List Tick
ticks_of (run value count) = replicate count (control (vsync_of value))
ticks_of (line bytes) = pixels bytes ∷ []
ticks_of (word lane j) = []
ticks_of (short j) = parted ∷ []
ticks_of (preamble j) = parted ∷ []
ticks_of (noise j) = parted ∷ []
ticks_of (empty j) = parted ∷ []
ticks_of (code lane j) = parted ∷ []
ticks_of (long_line j) = parted ∷ []
ticks_of (cut j) = parted ∷ []
ticks_of (open_island first second) = parted ∷ []
ticks_of (packet p verdicts j) = parted ∷ []
ticks_of (close_island first second) = parted ∷ []
ticks_of (symbols j count) = parted ∷ []
ticks_of (mended j block bit) = parted ∷ []
ticks_of (lost j block) = parted ∷ []
ticks_of (long_island j) = parted ∷ []
ticks_of (broken j) = parted ∷ []
ticks_of (guard j) = parted ∷ []

unfoldable pub ticks : List Event → List Tick
ticks [] = []
ticks (event ∷ events) = ticks_of event ++ ticks events

pub ticks_append : (xs ys : List Event) → ticks (xs ++ ys) ≡ ticks xs ++ ticks ys
unfolding ticks
ticks_append [] ys = refl
ticks_append (x ∷ xs) ys = ap (λ (ts : List Tick). ticks_of x ++ ts) (ticks_append xs ys) ∙ sym (append_assoc (ticks_of x) (ticks xs) (ticks ys))

-- the marks, the last value heard, whether the group counts, and the widths of its lines
pub record State : Type 0 where
  pub marks : List Mark
  pub heard : Option Bool
  pub counting : Bool
  pub group : List ℕ

-- a change ends the group, and the next one counts
abbrev pub turned : Bool → List Mark → Option Bool → State → State
turned true ms h s = record { marks = ms; heard = h; counting = true; group = [] }
turned false ms h s = record { marks = ms; heard = h; counting = s.counting; group = s.group }

abbrev pub hears : Bool → Bool → Option Bool
hears true vsync = Some vsync
hears false vsync = None

-- n columns of one VSYNC
abbrev pub run_marks : Bool → ℕ → List Mark → List Mark
run_marks b n ms = replicate n (column b) ++ ms

abbrev pub heard_after : Bool → ℕ → State → Option Bool
heard_after b n s = hears (three_have b (run_marks b n s.marks)) b

abbrev pub run_state : Bool → ℕ → State → State
run_state b zero s = s
run_state b (suc n) s = turned (differ (heard_after b (suc n) s) s.heard) (run_marks b (suc n) s.marks) (newer (heard_after b (suc n) s) s.heard) s

-- the frame of a counting group, at a change
abbrev pub ends : Bool → Bool → List ℕ → List Listed
ends changed counting widths = listed_frames (if changed && counting then frame_of widths else None)

abbrev pub run_said : Bool → ℕ → State → List Listed
run_said b zero s = []
run_said b (suc n) s = ends (differ (heard_after b (suc n) s) s.heard) s.counting s.group

abbrev pub note_of : State → ℕ → LineNote
note_of s width = record { counts = s.counting; ragged = s.counting && is_unlike s.group width; row = reported_count (length s.group) }

abbrev pub step : Tick → State → State
step (control b) s = run_state b 1 s
step (pixels bytes) s = record { marks = gap ∷ s.marks; heard = s.heard; counting = s.counting; group = s.group ++ (length bytes / 3) ∷ [] }
step parted s = record { marks = gap ∷ s.marks; heard = s.heard; counting = s.counting; group = s.group }

abbrev pub said : Tick → State → List Listed
said (control b) s = run_said b 1 s
said (pixels bytes) s = listed_rows bytes (note_of s (length bytes / 3))
said parted s = []

unfoldable pub after : List Tick → State → State
after [] s = s
after (t ∷ ts) s = after ts (step t s)

unfoldable pub says : List Tick → State → List Listed
says [] s = []
says (t ∷ ts) s = said t s ++ says ts (step t s)

pub says_append : (xs ys : List Tick) (s : State) → says (xs ++ ys) s ≡ says xs s ++ says ys (after xs s)
unfolding says after
says_append [] ys s = refl
says_append (x ∷ xs) ys s = ap (λ (ls : List Listed). said x s ++ ls) (says_append xs ys (step x s)) ∙ sym (append_assoc (said x s) (says xs (step x s)) (says ys (after xs (step x s))))

-- A run is its columns.

-- a value that is heard goes on to be heard
still_three : (b : Bool) (n : ℕ) (ms : List Mark) → three_have b (column b ∷ ms) ≡ true → three_have b (replicate n (column b) ++ column b ∷ ms) ≡ true
still_three b zero ms h = h
still_three true (suc zero) [] h = absurd cc
still_three true (suc zero) (x ∷ []) h = absurd cc
still_three true (suc zero) (column true ∷ (y ∷ ms)) h = refl
still_three true (suc zero) (column false ∷ (y ∷ ms)) h = absurd cc
still_three true (suc zero) (gap ∷ (y ∷ ms)) h = absurd cc
still_three true (suc (suc zero)) ms h = refl
still_three true (suc (suc (suc n))) ms h = refl
still_three false (suc zero) [] h = absurd cc
still_three false (suc zero) (x ∷ []) h = absurd cc
still_three false (suc zero) (column true ∷ (y ∷ ms)) h = absurd cc
still_three false (suc zero) (column false ∷ (y ∷ ms)) h = refl
still_three false (suc zero) (gap ∷ (y ∷ ms)) h = absurd cc
still_three false (suc (suc zero)) ms h = refl
still_three false (suc (suc (suc n))) ms h = refl

shifted : (b : Bool) (n : ℕ) (ms : List Mark) → replicate n (column b) ++ column b ∷ ms ≡ column b ∷ (replicate n (column b) ++ ms)
shifted b zero ms = refl
shifted b (suc n) ms = ap (λ (xs : List Mark). column b ∷ xs) (shifted b n ms)

abbrev both : Bool → Bool → Bool → List Mark → List Mark → State → State
both t u b ms ns s =
    turned (differ (hears u b) (turned (differ (hears t b) s.heard) ms (newer (hears t b) s.heard) s).heard) ns (newer (hears u b) (turned (differ (hears t b) s.heard) ms (newer (hears t b) s.heard) s).heard) (turned (differ (hears t b) s.heard) ms (newer (hears t b) s.heard) s)

abbrev one : Bool → Bool → List Mark → State → State
one u b ns s = turned (differ (hears u b) s.heard) ns (newer (hears u b) s.heard) s

-- of two times at which a value may be heard the first is the change
one_change : (t u b : Bool) (h : Option Bool) (c : Bool) (g : List ℕ) (ms ns ks : List Mark) → (t ≡ true → u ≡ true) → both t u b ms ns (record { marks = ks; heard = h; counting = c; group = g }) ≡ one u b ns (record { marks = ks; heard = h; counting = c; group = g })
one_change t u b h c g ms ns ks k = grind arith

abbrev both_say : Bool → Bool → Bool → List Mark → State → List Listed
both_say t u b ms s =
    ends (differ (hears t b) s.heard) s.counting s.group
    ++ ends (differ (hears u b) (turned (differ (hears t b) s.heard) ms (newer (hears t b) s.heard) s).heard) (turned (differ (hears t b) s.heard) ms (newer (hears t b) s.heard) s).counting (turned (differ (hears t b) s.heard) ms (newer (hears t b) s.heard) s).group

one_said : (t u b : Bool) (h : Option Bool) (c : Bool) (g : List ℕ) (ms ks : List Mark) → (t ≡ true → u ≡ true) → both_say t u b ms (record { marks = ks; heard = h; counting = c; group = g }) ≡ ends (differ (hears u b) h) c g
one_said t u b h c g ms ks k = grind (arith, append-nil)

turned_marks : (changed : Bool) (ms : List Mark) (h : Option Bool) (s : State) → (turned changed ms h s).marks ≡ ms
turned_marks changed ms h s = grind arith

-- a column before a run of the same VSYNC
pub longer_state : (b : Bool) (n : ℕ) (s : State) → run_state b n (run_state b 1 s) ≡ run_state b (suc n) s
longer_state b n s = grind (arith, turned_marks, one_change, still_three, shifted)

pub longer_said : (b : Bool) (n : ℕ) (s : State) → run_said b 1 s ++ run_said b n (run_state b 1 s) ≡ run_said b (suc n) s
longer_said b n s = grind (arith, append-nil, turned_marks, one_said, still_three, shifted)

pub run_after : (b : Bool) (n : ℕ) (s : State) → after (replicate n (control b)) s ≡ run_state b n s
unfolding after
run_after b zero s = refl
run_after b (suc n) s = run_after b n (run_state b 1 s) ∙ longer_state b n s

pub run_says : (b : Bool) (n : ℕ) (s : State) → says (replicate n (control b)) s ≡ run_said b n s
unfolding says
run_says b zero s = refl
run_says b (suc n) s = ap (λ (ls : List Listed). run_said b 1 s ++ ls) (run_says b n (run_state b 1 s)) ∙ longer_said b n s
