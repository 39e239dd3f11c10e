-- What frames see of columns of which few were received otherwise than they were sent. A column that is received as a
-- third wrong one among eleven would be taken as it was sent: where damage is sparse there is none.
use Rattle.std.proofs.Common.{arith, ◌≡◌, ℕ, zero, suc, ◌+◌, ◌/◌, Bool, true, false, not, ◌&&◌, ◌||◌, cond, List, [], ◌∷◌, ◌++◌, length, replicate, Option, None, refl, sym, ap, ap₂, subst, ◌∙◌, append_assoc}
use Rattle.std.specs.Prelude.{nat_le}
use Rattle.tmds_word.proofs.Below.{and-left, and-right}
use Rattle.terc4.specs.Columns.{one_if}
use Rattle.frame_build.specs.FrameEvent.{Mark, column, gap, has_vsync}
use Rattle.frame_build.specs.Change.{three_have, newer, differ}
use Rattle.frame_build.specs.Group.{is_unlike, reported_count}
use Rattle.frame_build.specs.declared.LineNote.{LineNote}
use Rattle.listing_writer.specs.Listed.{Listed, listed_rows}
use Rattle.listing_laws.proofs.Machine.{hears, ends}
use Rattle.listing_laws.proofs.Machine as plain

-- a control column, with the level that was sent and the one that was received, a row, or a gap
pub data Cell : Type 0 where
  control : Bool → Bool → Cell
  pixels : List ℕ → Cell
  parted : Cell

-- the marks, the last value heard, whether the group counts, the widths of its lines, and of the columns since the last
-- gap, the newest first, whether each was received otherwise than it was sent
pub record State : Type 0 where
  pub marks : List Mark
  pub heard : Option Bool
  pub counting : Bool
  pub group : List ℕ
  pub recent : List Bool

-- how many of the first n are wrong
abbrev pub wrongs : ℕ → List Bool → ℕ
wrongs zero rs = 0
wrongs (suc n) [] = 0
wrongs (suc n) (r ∷ rs) = one_if r + wrongs n rs

-- so few that one more makes no more than two of eleven
abbrev pub few : List Bool → Bool
few rs = nat_le (wrongs 10 rs) 1

abbrev pub same : Bool → Bool → Bool
same true b = b
same false b = not b

-- the level that is taken of a column
abbrev pub taken : Bool → Bool → List Bool → Bool
taken b v rs = cond (few rs) v b

abbrev pub turned : Bool → List Mark → Option Bool → List Bool → State → State
turned true ms h rs s = record { marks = ms; heard = h; counting = true; group = []; recent = rs }
turned false ms h rs s = record { marks = ms; heard = h; counting = s.counting; group = s.group; recent = rs }

-- the level that is heard at one more column of it
abbrev pub heard_at : Bool → State → Option Bool
heard_at w s = hears (three_have w (column w ∷ s.marks)) w

abbrev pub column_state : Bool → Bool → State → State
column_state wrong w s = turned (differ (heard_at w s) s.heard) (column w ∷ s.marks) (newer (heard_at w s) s.heard) (wrong ∷ s.recent) s

abbrev pub column_said : Bool → State → List Listed
column_said w s = ends (differ (heard_at w s) s.heard) s.counting s.group

abbrev pub note_of : State → ℕ → LineNote
note_of s width = record { counts = s.counting; ragged = s.counting && is_unlike s.group width; row = reported_count (length s.group) }

abbrev pub step : Cell → State → State
step (control b v) s = column_state (not (same b (taken b v s.recent))) (taken b v s.recent) s
step (pixels bytes) s = record { marks = gap ∷ s.marks; heard = s.heard; counting = s.counting; group = s.group ++ (length bytes / 3) ∷ []; recent = [] }
step parted s = record { marks = gap ∷ s.marks; heard = s.heard; counting = s.counting; group = s.group; recent = [] }

abbrev pub said : Cell → State → List Listed
said (control b v) s = column_said (taken b v s.recent) s
said (pixels bytes) s = listed_rows bytes (note_of s (length bytes / 3))
said parted s = []

unfoldable pub after : List Cell → State → State
after [] s = s
after (t ∷ ts) s = after ts (step t s)

unfoldable pub says : List Cell → State → List Listed
says [] s = []
says (t ∷ ts) s = said t s ++ says ts (step t s)

pub after_append : (xs ys : List Cell) (s : State) → after (xs ++ ys) s ≡ after ys (after xs s)
unfolding after
after_append [] ys s = refl
after_append (x ∷ xs) ys s = after_append xs ys (step x s)

pub says_append : (xs ys : List Cell) (s : State) → says (xs ++ ys) s ≡ says xs s ++ says ys (after xs s)
unfolding says after
says_append [] ys s = refl
says_append (x ∷ xs) ys s = ap (λ (ls : List Listed). said x s ++ ls) (says_append xs ys (step x s)) ∙ sym (append_assoc (said x s) (says xs (step x s)) (says ys (after xs (step x s))))

-- nothing was heard yet
abbrev pub fresh : State
fresh = record { marks = []; heard = None; counting = false; group = []; recent = [] }

-- What is reported of these cells.

pub data Hears : List plain.Tick → List Cell → Type 0 where
  none : Hears [] []
  one : (b v : Bool) (ts : List plain.Tick) (cs : List Cell) → Hears ts cs → Hears (plain.control v ∷ ts) (control b v ∷ cs)
  apart : (k : ℕ) (ts : List plain.Tick) (cs : List Cell) → Hears ts cs → Hears (plain.parted ∷ (replicate k plain.parted ++ ts)) (parted ∷ cs)
  row : (bytes : List ℕ) (i k : ℕ) (ts : List plain.Tick) (cs : List Cell) → Hears ts cs → Hears (replicate i plain.parted ++ (plain.pixels bytes ∷ (replicate k plain.parted ++ ts))) (pixels bytes ∷ cs)

pub hears_append : (ts us : List plain.Tick) (cs ds : List Cell) → Hears ts cs → Hears us ds → Hears (ts ++ us) (cs ++ ds)
hears_append _ us _ ds none k = k
hears_append _ us _ ds (one b v ts cs h) k = one b v (ts ++ us) (cs ++ ds) (hears_append ts us cs ds h k)
hears_append _ us _ ds (apart n ts cs h) k =
    subst (λ (xs : List plain.Tick). Hears (plain.parted ∷ xs) (parted ∷ (cs ++ ds))) (sym (append_assoc (replicate n plain.parted) ts us)) (apart n (ts ++ us) (cs ++ ds) (hears_append ts us cs ds h k))
hears_append _ us _ ds (row bytes i n ts cs h) k =
    subst (λ (xs : List plain.Tick). Hears xs (pixels bytes ∷ (cs ++ ds)))
    (sym (append_assoc (replicate i plain.parted) (plain.pixels bytes ∷ (replicate n plain.parted ++ ts)) us ∙ ap (λ (xs : List plain.Tick). replicate i plain.parted ++ (plain.pixels bytes ∷ xs)) (append_assoc (replicate n plain.parted) ts us)))
    (row bytes i n (ts ++ us) (cs ++ ds) (hears_append ts us cs ds h k))

-- no column is a third wrong one
unfoldable pub fine : List Bool → List Cell → Bool
fine rs [] = true
fine rs (control b v ∷ cs) = (same b v || few rs) && fine (not (same b v) ∷ rs) cs
fine rs (pixels bytes ∷ cs) = fine [] cs
fine rs (parted ∷ cs) = fine [] cs

-- Marks that differ in gaps alone.

abbrev pub alike : List Mark → List Mark → Bool
alike [] [] = true
alike [] (gap ∷ ns) = true
alike [] (column w ∷ ns) = false
alike (gap ∷ ms) [] = true
alike (gap ∷ ms) (gap ∷ ns) = true
alike (gap ∷ ms) (column w ∷ ns) = false
alike (column v ∷ ms) [] = false
alike (column v ∷ ms) (gap ∷ ns) = false
alike (column v ∷ ms) (column w ∷ ns) = same v w && alike ms ns

pub same_is : (a b : Bool) → same a b ≡ true → b ≡ a
same_is a b h = grind arith

-- whether the two newest marks are columns of this level
abbrev both_have : Bool → List Mark → Bool
both_have b (column v ∷ (column w ∷ ms)) = has_vsync b (column v) && has_vsync b (column w)
both_have b _ = false

pub itself : (b : Bool) → has_vsync b (column b) ≡ true
itself b = grind arith

pub no_gap : (b : Bool) → has_vsync b gap ≡ false
no_gap b = grind arith

pub and_false : (a b : Bool) → b ≡ false → (a && b) ≡ false
and_false a b h = grind arith

three_is : (b : Bool) (ms : List Mark) → three_have b (column b ∷ ms) ≡ both_have b ms
three_is b ms = grind (arith, itself, and_false, no_gap)

both_alike : (b : Bool) (ms ns : List Mark) → alike ms ns ≡ true → both_have b ms ≡ both_have b ns
both_alike b ms ns h = grind (arith, and-right, same_is, and-left)

pub three_alike : (b : Bool) (ms ns : List Mark) → alike ms ns ≡ true → three_have b (column b ∷ ms) ≡ three_have b (column b ∷ ns)
three_alike b ms ns h = three_is b ms ∙ both_alike b ms ns h ∙ sym (three_is b ns)

record Like (s : plain.State) (t : State) : Type 0 where
  pub marks : alike s.marks t.marks ≡ true
  pub heard : s.heard ≡ t.heard
  pub counting : s.counting ≡ t.counting
  pub group : s.group ≡ t.group

pub same_self : (v : Bool) → same v v ≡ true
same_self v = grind arith

turned_like : (c : Bool) (ms ns : List Mark) (h : Option Bool) (rs : List Bool) (s : plain.State) (t : State) → alike ms ns ≡ true → Like s t → Like (plain.turned c ms h s) (turned c ns h rs t)
turned_like c ms ns h rs s t k l = grind arith

column_like : (w wrong : Bool) (s : plain.State) (t : State) → Like s t → Like (plain.step (plain.control w) s) (column_state wrong w t)
column_like w wrong s t l = grind (arith, hears, three_alike, same_self, turned_like)

column_same : (w : Bool) (s : plain.State) (t : State) → Like s t → plain.said (plain.control w) s ≡ column_said w t
column_same w s t l =
    ap₂ (λ (x : Bool) (h : Option Bool). ends (differ (hears x w) h) s.counting s.group) (three_alike w s.marks t.marks l.marks) l.heard
    ∙ ap₂ (λ (c : Bool) (g : List ℕ). ends (differ (heard_at w t) t.heard) c g) l.counting l.group

pub taken_is : (b v : Bool) (rs : List Bool) → (same b v || few rs) ≡ true → taken b v rs ≡ v
taken_is b v rs h = grind (arith, same_is)

-- gaps one after another are one
parted_like : (k : ℕ) (s : plain.State) (t : State) → Like s t → (ms : List Mark) → t.marks ≡ gap ∷ ms → Like (plain.after (replicate k plain.parted) s) t
unfolding plain.after
parted_like zero s t l ms e = l
parted_like (suc k) s t l ms e =
    parted_like k (plain.step plain.parted s) t
    (record { marks = subst (λ (ns : List Mark). alike (gap ∷ s.marks) ns ≡ true) (sym e) refl; heard = l.heard; counting = l.counting; group = l.group }) ms e

parted_says : (k : ℕ) (s : plain.State) → plain.says (replicate k plain.parted) s ≡ []
unfolding plain.says
parted_says zero s = refl
parted_says (suc k) s = parted_says k (plain.step plain.parted s)

-- the same but for the marks
record Near (s : plain.State) (t : State) : Type 0 where
  pub heard : s.heard ≡ t.heard
  pub counting : s.counting ≡ t.counting
  pub group : s.group ≡ t.group

parted_near : (k : ℕ) (s : plain.State) (t : State) → Near s t → Near (plain.after (replicate k plain.parted) s) t
unfolding plain.after
parted_near zero s t n = n
parted_near (suc k) s t n = parted_near k (plain.step plain.parted s) t (record { heard = n.heard; counting = n.counting; group = n.group })

pub turned_recent : (c : Bool) (ms : List Mark) (h : Option Bool) (rs : List Bool) (t : State) → (turned c ms h rs t).recent ≡ rs
turned_recent c ms h rs t = grind arith

row_like : (bytes : List ℕ) (s : plain.State) (t : State) → Near s t → Like (plain.step (plain.pixels bytes) s) (step (pixels bytes) t)
row_like bytes s t n = record { marks = refl; heard = n.heard; counting = n.counting; group = ap (λ (g : List ℕ). g ++ (length bytes / 3) ∷ []) n.group }

row_same : (bytes : List ℕ) (s : plain.State) (t : State) → Near s t → plain.said (plain.pixels bytes) s ≡ said (pixels bytes) t
row_same bytes s t n =
    ap₂ (λ (c : Bool) (g : List ℕ). listed_rows bytes (record { counts = c; ragged = c && is_unlike g (length bytes / 3); row = reported_count (length g) })) n.counting n.group

-- gaps say nothing
past_gaps : (k : ℕ) (ts : List plain.Tick) (s : plain.State) → plain.says (replicate k plain.parted ++ ts) s ≡ plain.says ts (plain.after (replicate k plain.parted) s)
past_gaps k ts s = plain.says_append (replicate k plain.parted) ts s ∙ ap (λ (xs : List Listed). xs ++ plain.says ts (plain.after (replicate k plain.parted) s)) (parted_says k s)

-- what is reported of cells is what they say, where no column is a third wrong one
cells_say : (ts : List plain.Tick) (cs : List Cell) → Hears ts cs → (s : plain.State) (t : State) → fine t.recent cs ≡ true → Like s t → plain.says ts s ≡ says cs t
unfolding plain.says says fine
cells_say _ _ none s t f l = refl
cells_say _ _ (one b v ts cs h) s t f l =
    let e = taken_is b v t.recent (and-left (same b v || few t.recent) _ f) in
    let now = column_state (not (same b v)) v t in
    let r = turned_recent (differ (heard_at v t) t.heard) (column v ∷ t.marks) (newer (heard_at v t) t.heard) (not (same b v) ∷ t.recent) t in
    let g = subst (λ (rs : List Bool). fine rs cs ≡ true) (sym r) (and-right (same b v || few t.recent) _ f) in
    ap₂ (λ (xs ys : List Listed). xs ++ ys) (column_same v s t l) (cells_say ts cs h (plain.step (plain.control v) s) now g (column_like v (not (same b v)) s t l))
    ∙ sym (ap (λ (w : Bool). column_said w t ++ says cs (column_state (not (same b w)) w t)) e)
cells_say _ _ (apart k ts cs h) s t f l =
    past_gaps k ts (plain.step plain.parted s)
    ∙ cells_say ts cs h (plain.after (replicate k plain.parted) (plain.step plain.parted s)) (step parted t) f
    (parted_like k (plain.step plain.parted s) (step parted t) (record { marks = refl; heard = l.heard; counting = l.counting; group = l.group }) t.marks refl)
cells_say _ _ (row bytes i k ts cs h) s t f l =
    let u = plain.after (replicate i plain.parted) s in
    let n = parted_near i s t (record { heard = l.heard; counting = l.counting; group = l.group }) in
    let now = plain.step (plain.pixels bytes) u in
    past_gaps i (plain.pixels bytes ∷ (replicate k plain.parted ++ ts)) s
    ∙ ap₂ (λ (xs ys : List Listed). xs ++ ys) (row_same bytes u t n)
    (past_gaps k ts now ∙ cells_say ts cs h (plain.after (replicate k plain.parted) now) (step (pixels bytes) t) f (parted_like k now (step (pixels bytes) t) (row_like bytes u t n) t.marks refl))

-- from the start on
pub all_say : (ts : List plain.Tick) (cs : List Cell) → Hears ts cs → fine [] cs ≡ true → plain.says ts (record { marks = []; heard = None; counting = false; group = [] }) ≡ says cs fresh
all_say ts cs h f = cells_say ts cs h (record { marks = []; heard = None; counting = false; group = [] }) fresh f (record { marks = refl; heard = refl; counting = refl; group = refl })
