-- Why no change is heard while the level stays, and why one is heard where nine columns of the other
-- level were received.
use Rattle.std.proofs.Common.{◌≡◌, ℕ, zero, suc, ◌+◌, ◌*◌, ◌≤◌, Bool, true, false, not, ◌&&◌, cond, List, [], ◌∷◌, ◌++◌, map, length, replicate, Option, Some, None, refl, sym, ap, ap₂, subst, ◌∙◌, append-nil, arith, inl, inr, ◌⊎◌}
use Rattle.std.specs.List.{list_all}
use Rattle.std.proofs.lemmas.Bool.{leb-true}
use Rattle.std.proofs.lemmas.List.Folds.{list_all-append}
use Rattle.tmds_word.proofs.Below.{and-left, and-right}
use Rattle.terc4.specs.Columns.{one_if}
use Rattle.frame_build.specs.FrameEvent.{Mark, column, gap, has_vsync}
use Rattle.frame_build.specs.Change.{three_have, newer, differ}
use Rattle.listing_writer.specs.Listed.{Listed}
use Rattle.listing_laws.proofs.Machine.{hears, ends}
use Rattle.listing_laws.proofs.Cells.{Cell, control, pixels, parted, State, wrongs, few, same, same_is, same_self, taken, turned, turned_recent, heard_at, column_state, column_said, step, said, after, says, fresh}

-- the newest mark is no column of this level
abbrev pub clear : Bool → List Mark → Bool
clear b [] = true
clear b (m ∷ ms) = not (has_vsync b m)

-- the newest marks of the other level, at most two, are of columns received otherwise than they were sent
pub record Trail (b : Bool) (ms : List Mark) (rs : List Bool) : Type 0 where
  pub count : ℕ
  pub least : count ≤ 2
  pub earlier : List Mark
  pub older : List Bool
  pub marks : ms ≡ replicate count (column (not b)) ++ earlier
  pub recent : rs ≡ replicate count true ++ older
  pub clears : clear (not b) earlier ≡ true

-- the level b was the last one heard
pub record Ready (s : State) (b : Bool) (c : Bool) (g : List ℕ) : Type 0 where
  pub heard : s.heard ≡ Some b
  pub trail : Trail b s.marks s.recent
  pub counting : s.counting ≡ c
  pub group : s.group ≡ g

pub clear_trail : (b : Bool) (ms : List Mark) (rs : List Bool) → clear (not b) ms ≡ true → Trail b ms rs
clear_trail b ms rs h = record { count = 0; least = omega arith; earlier = ms; older = rs; marks = refl; recent = refl; clears = h }

-- a column that was sent at this level, or a gap
abbrev pub flat : Bool → Cell → Bool
flat b (control u v) = same b u
flat b (pixels bytes) = false
flat b parted = true

abbrev pub Flat : Bool → List Cell → Type 0
Flat b ts = list_all (flat b) ts ≡ true

pub flat_append : (b : Bool) (xs ys : List Cell) → Flat b xs → Flat b ys → Flat b (xs ++ ys)
flat_append b xs ys h g = list_all-append (flat b) xs ys ∙ ap₂ (λ (x y : Bool). x && y) h g

-- One column.

pub not_it : (b : Bool) → has_vsync (not b) (column b) ≡ false
not_it b = grind arith

pub column_clear : (b : Bool) (ms : List Mark) → clear (not b) (column b ∷ ms) ≡ true
column_clear b ms = ap not (not_it b)

pub gap_clear : (b : Bool) (ms : List Mark) → clear b (gap ∷ ms) ≡ true
gap_clear b ms = grind arith

one_none : (b : Bool) (ms : List Mark) → clear b ms ≡ true → three_have b (column b ∷ ms) ≡ false
one_none b ms h = grind arith

two_none : (b : Bool) (ms : List Mark) → clear b ms ≡ true → three_have b (column b ∷ (column b ∷ ms)) ≡ false
two_none b ms h = grind arith

-- one more of the wrong level is no third
pub record MayGrow (b : Bool) (ms : List Mark) (rs : List Bool) : Type 0 where
  pub trail : Trail b (column (not b) ∷ ms) (true ∷ rs)
  pub none : three_have (not b) (column (not b) ∷ ms) ≡ false

two_many : (rs : List Bool) → few (true ∷ (true ∷ rs)) ≡ true → ⊥
unfolding one_if
two_many rs h = let e = leb-true (wrongs 10 (true ∷ (true ∷ rs))) 1 h in omega (arith, e)

pub grows : (b : Bool) (ms : List Mark) (rs : List Bool) → few rs ≡ true → Trail b ms rs → MayGrow b ms rs
grows b ms rs h t = by_count t.count t.least t.marks t.recent
  where
    by_count : (n : ℕ) → n ≤ 2 → ms ≡ replicate n (column (not b)) ++ t.earlier → rs ≡ replicate n true ++ t.older → MayGrow b ms rs
    by_count zero le e d = record {
      trail = record { count = 1; least = omega arith; earlier = t.earlier; older = t.older; marks = ap (λ (ns : List Mark). column (not b) ∷ ns) e; recent = ap (λ (xs : List Bool). true ∷ xs) d; clears = t.clears };
      none = ap (λ (ns : List Mark). three_have (not b) (column (not b) ∷ ns)) e ∙ one_none (not b) t.earlier t.clears;
    }
    by_count (suc zero) le e d = record {
      trail = record { count = 2; least = omega arith; earlier = t.earlier; older = t.older; marks = ap (λ (ns : List Mark). column (not b) ∷ ns) e; recent = ap (λ (xs : List Bool). true ∷ xs) d; clears = t.clears };
      none = ap (λ (ns : List Mark). three_have (not b) (column (not b) ∷ ns)) e ∙ two_none (not b) t.earlier t.clears;
    }
    by_count (suc (suc zero)) le e d = absurd (two_many t.older (subst (λ (xs : List Bool). few xs ≡ true) d h))
    by_count (suc (suc (suc n))) le e d = absurd (omega (arith, le))

-- what is taken of a column: the level that was sent, or the other
pub record IsWrong (b w : Bool) (rs : List Bool) : Type 0 where
  pub other : w ≡ not b
  pub allowed : few rs ≡ true

pub taken_cases : (b v : Bool) (rs : List Bool) → (taken b v rs ≡ b) ⊎ IsWrong b (taken b v rs) rs
taken_cases b v rs = grind (arith, few)

flag_right : (b : Bool) → not (same b b) ≡ false
flag_right b = grind arith

flag_wrong : (b : Bool) → not (same b (not b)) ≡ true
flag_wrong b = grind arith

pub step_right : (b v : Bool) (s : State) → taken b v s.recent ≡ b → step (control b v) s ≡ column_state false b s
step_right b v s e = ap (λ (w : Bool). column_state (not (same b w)) w s) e ∙ ap (λ (f : Bool). column_state f b s) (flag_right b)

step_wrong : (b v : Bool) (s : State) → taken b v s.recent ≡ not b → step (control b v) s ≡ column_state true (not b) s
step_wrong b v s e = ap (λ (w : Bool). column_state (not (same b w)) w s) e ∙ ap (λ (f : Bool). column_state f (not b) s) (flag_wrong b)

differ_same : (t b : Bool) → differ (hears t b) (Some b) ≡ false
differ_same t b = grind arith

newer_same : (t b : Bool) → newer (hears t b) (Some b) ≡ Some b
newer_same t b = grind arith

differ_none : (h : Option Bool) → differ None h ≡ false
differ_none h = grind arith

none_differ : (h : Option Bool) → differ h None ≡ false
none_differ h = grind arith

differ_other : (b : Bool) → differ (Some b) (Some (not b)) ≡ true
differ_other b = grind arith

-- a column of the level that was heard
column_again : (f b : Bool) (s : State) → s.heard ≡ Some b → column_state f b s ≡ turned false (column b ∷ s.marks) (Some b) (f ∷ s.recent) s
column_again f b s e = grind (arith, turned, hears, differ_same, newer_same)

again_said : (b : Bool) (s : State) → s.heard ≡ Some b → column_said b s ≡ []
again_said b s e =
    let t = three_have b (column b ∷ s.marks) in
    ap (λ (h : Option Bool). ends (differ (hears t b) h) s.counting s.group) e ∙ ap (λ (d : Bool). ends d s.counting s.group) (differ_same t b)

-- a column that makes no three
column_alone : (f w : Bool) (s : State) → three_have w (column w ∷ s.marks) ≡ false → column_state f w s ≡ turned false (column w ∷ s.marks) s.heard (f ∷ s.recent) s
column_alone f w s e =
    ap (λ (t : Bool). turned (differ (hears t w) s.heard) (column w ∷ s.marks) (newer (hears t w) s.heard) (f ∷ s.recent) s) e
    ∙ ap (λ (d : Bool). turned d (column w ∷ s.marks) s.heard (f ∷ s.recent) s) (differ_none s.heard)

alone_said : (w : Bool) (s : State) → three_have w (column w ∷ s.marks) ≡ false → column_said w s ≡ []
alone_said w s e =
    ap (λ (t : Bool). ends (differ (hears t w) s.heard) s.counting s.group) e ∙ ap (λ (d : Bool). ends d s.counting s.group) (differ_none s.heard)

pub record IsStill (s : State) (b v c : Bool) (g : List ℕ) : Type 0 where
  pub nothing : said (control b v) s ≡ []
  pub ready : Ready (step (control b v) s) b c g

pub still : (b v c : Bool) (g : List ℕ) (s : State) → Ready s b c g → IsStill s b v c g
still b v c g s was = elim (taken_cases b v s.recent) [
  | inl e ↦ grind (arith, column_said, again_said, State, step_right, column_again, clear_trail, column_clear)
  | inr wrong ↦
      let g2 = grows b s.marks s.recent wrong.allowed was.trail in
      record {
        nothing = ap (λ (w : Bool). column_said w s) wrong.other ∙ alone_said (not b) s g2.none;
        ready = subst (λ (x : State). Ready x b c g) (sym (step_wrong b v s wrong.other ∙ column_alone true (not b) s g2.none))
            (record { heard = was.heard; trail = g2.trail; counting = was.counting; group = was.group });
      }
]

pub gap_ready : (b c : Bool) (g : List ℕ) (s : State) → Ready s b c g → Ready (step parted s) b c g
gap_ready b c g s was = record { heard = was.heard; trail = clear_trail b (gap ∷ s.marks) [] (gap_clear (not b) s.marks); counting = was.counting; group = was.group }

pub record ReportsNothing (ts : List Cell) (s : State) (b c : Bool) (g : List ℕ) : Type 0 where
  pub nothing : says ts s ≡ []
  pub ready : Ready (after ts s) b c g

-- no change is heard in columns of the level that was heard, and of gaps
pub reports_nothing : (b c : Bool) (g : List ℕ) (ts : List Cell) (s : State) → Flat b ts → Ready s b c g → ReportsNothing ts s b c g
unfolding says after
reports_nothing b c g [] s h was = record { nothing = refl; ready = was }
reports_nothing b c g (control u v ∷ ts) s h was =
    let e = same_is b u (and-left _ _ h) in
    let first = subst (λ (x : Bool). (said (control x v) s ≡ []) × Ready (step (control x v) s) b c g) (sym e) (let i = still b v c g s was in (i.nothing, i.ready)) in
    let k = reports_nothing b c g ts (step (control u v) s) (and-right _ _ h) first.1 in
    record { nothing = ap₂ (λ (xs ys : List Listed). xs ++ ys) first.0 k.nothing; ready = k.ready }
reports_nothing b c g (pixels bytes ∷ ts) s h was = absurd cc
reports_nothing b c g (parted ∷ ts) s h was = let k = reports_nothing b c g ts (step parted s) h (gap_ready b c g s was) in record { nothing = k.nothing; ready = k.ready }

-- Columns that were sent at one level.

abbrev pub columns : Bool → List Bool → List Cell
columns b us = map (control b) us

pub flat_columns : (b : Bool) (us : List Bool) → Flat b (columns b us)
flat_columns b [] = refl
flat_columns b (u ∷ us) = ap₂ (λ (x y : Bool). x && y) (same_self b) (flat_columns b us)

-- k columns were received, of which x are wrong, and the last r are right: three in a row were not received right yet
record Waiting (s : State) (b : Bool) (k x r : ℕ) : Type 0 where
  pub seen : (j : ℕ) → k ≤ j → x ≤ wrongs j s.recent
  pub earlier : List Mark
  pub marks : s.marks ≡ replicate r (column b) ++ earlier
  pub count : k ≤ 3 * x + r
  pub few_wrong : x ≤ 2
  pub short : r ≤ 2

start_waiting : (s : State) (b : Bool) → Waiting s b 0 0 0
start_waiting s b = record { seen = λ j le. omega arith; earlier = s.marks; marks = refl; count = omega arith; few_wrong = omega arith; short = omega arith }

three_same : (b : Bool) (ms : List Mark) → three_have b (column b ∷ (column b ∷ (column b ∷ ms))) ≡ true
three_same b ms = grind arith

shorter : (b : Bool) (r : ℕ) (ms earlier : List Mark) → ms ≡ replicate r (column b) ++ earlier → r ≤ 2 → three_have b (column b ∷ ms) ≡ false → r ≤ 1
shorter b r ms earlier h k l = grind (arith, three_same)

seen_more : (f : Bool) (k x : ℕ) (rs : List Bool) → ((j : ℕ) → k ≤ j → x ≤ wrongs j rs) → (j : ℕ) → suc k ≤ j → one_if f + x ≤ wrongs j (f ∷ rs)
seen_more f k x rs h l m = grind arith

wait_right : (s t : State) (b : Bool) (k x r : ℕ) → Waiting s b k x r → three_have b (column b ∷ s.marks) ≡ false → t.marks ≡ column b ∷ s.marks → t.recent ≡ false ∷ s.recent → Waiting t b (suc k) x (suc r)
unfolding one_if
wait_right s t b k x r w none ms rs =
    let le = shorter b r s.marks w.earlier w.marks w.short none in
    record {
      seen = λ j m. subst (λ (xs : List Bool). x ≤ wrongs j xs) (sym rs) (let q = seen_more false k x s.recent w.seen j m in omega (arith, q));
      earlier = w.earlier;
      marks = ms ∙ ap (λ (ns : List Mark). column b ∷ ns) w.marks;
      count = omega (arith, w.count);
      few_wrong = w.few_wrong;
      short = omega (arith, le);
    }

wait_wrong : (s t : State) (b : Bool) (k x r : ℕ) → Waiting s b k x r → few s.recent ≡ true → t.recent ≡ true ∷ s.recent → Waiting t b (suc k) (suc x) 0
unfolding one_if
wait_wrong s t b k x r w allowed rs =
    let q = w.seen 10 (omega (arith, w.count, w.few_wrong, w.short)) in
    grind (arith, leb-true, wrongs, seen_more)

pub record IsTurned (ts : List Cell) (s : State) (b c : Bool) (g : List ℕ) : Type 0 where
  pub frame : says ts s ≡ ends true c g
  pub ready : Ready (after ts s) b true []

-- a column at which the other level is heard
column_turns : (b : Bool) (s : State) → s.heard ≡ Some (not b) → three_have b (column b ∷ s.marks) ≡ true → column_state false b s ≡ turned true (column b ∷ s.marks) (Some b) (false ∷ s.recent) s
column_turns b s e h =
    ap₂ (λ (t : Bool) (x : Option Bool). turned (differ (hears t b) x) (column b ∷ s.marks) (newer (hears t b) x) (false ∷ s.recent) s) h e
    ∙ ap (λ (d : Bool). turned d (column b ∷ s.marks) (Some b) (false ∷ s.recent) s) (differ_other b)

turns_said : (b c : Bool) (g : List ℕ) (s : State) → s.heard ≡ Some (not b) → s.counting ≡ c → s.group ≡ g → three_have b (column b ∷ s.marks) ≡ true → column_said b s ≡ ends true c g
turns_said b c g s e ec eg h =
    ap₂ (λ (t : Bool) (x : Option Bool). ends (differ (hears t b) x) s.counting s.group) h e
    ∙ ap (λ (d : Bool). ends d s.counting s.group) (differ_other b) ∙ ap₂ (λ (x : Bool) (y : List ℕ). ends true x y) ec eg

turned_now : (b : Bool) (s : State) → Ready (turned true (column b ∷ s.marks) (Some b) (false ∷ s.recent) s) b true []
turned_now b s = record { heard = refl; trail = clear_trail b (column b ∷ s.marks) (false ∷ s.recent) (column_clear b s.marks); counting = refl; group = refl }

-- one column more, while the other level is the one that was heard
abbrev Heard : State → Bool → Bool → List ℕ → Type 0
Heard s b c g = (s.heard ≡ Some b) × (s.counting ≡ c) × (s.group ≡ g)

-- what one column does before the level of the columns is heard
data Column (s : State) (b v c : Bool) (g : List ℕ) : Type 0 where
  turning : said (control b v) s ≡ ends true c g → Ready (step (control b v) s) b true [] → Column s b v c g
  waiting :
      said (control b v) s ≡ [] → Heard (step (control b v) s) (not b) c g
      → ((k x r : ℕ) → Waiting s b k x r → (k2 x2 r2 : ℕ) × (k2 ≡ suc k) × Waiting (step (control b v) s) b k2 x2 r2) → Column s b v c g

one_column : (b v c : Bool) (g : List ℕ) (s : State) → Heard s (not b) c g → Column s b v c g
one_column b v c g s h = elim (taken_cases b v s.recent) [
  | inl e ↦ by_three e (three_have b (column b ∷ s.marks)) refl
  | inr wrong ↦
      let now = step_wrong b v s wrong.other ∙ column_again true (not b) s h.0 in
      waiting (ap (λ (w : Bool). column_said w s) wrong.other ∙ again_said (not b) s h.0)
      (subst (λ (x : State). Heard x (not b) c g) (sym now) (refl, h.1, h.2))
      (λ k x r w. (suc k, suc x, 0, refl, subst (λ (t : State). Waiting t b (suc k) (suc x) 0) (sym now) (wait_wrong s (turned false (column (not b) ∷ s.marks) (Some (not b)) (true ∷ s.recent) s) b k x r w wrong.allowed refl)))
]
  where
    by_three : taken b v s.recent ≡ b → (t : Bool) → three_have b (column b ∷ s.marks) ≡ t → Column s b v c g
    by_three e true is =
        turning (ap (λ (w : Bool). column_said w s) e ∙ turns_said b c g s h.0 h.1 h.2 is)
        (subst (λ (x : State). Ready x b true []) (sym (step_right b v s e ∙ column_turns b s h.0 is)) (turned_now b s))
    by_three e false is =
        let now = step_right b v s e ∙ column_alone false b s is in
        waiting (ap (λ (w : Bool). column_said w s) e ∙ alone_said b s is)
        (subst (λ (x : State). Heard x (not b) c g) (sym now) (h.0, h.1, h.2))
        (λ k x r w. (suc k, x, suc r, refl, subst (λ (t : State). Waiting t b (suc k) x (suc r)) (sym now) (wait_right s (turned false (column b ∷ s.marks) s.heard (false ∷ s.recent) s) b k x r w is refl refl)))

turn_from : (b c : Bool) (g : List ℕ) (us : List Bool) (rest : List Cell) (s : State) → Heard s (not b) c g → (k x r : ℕ) → Waiting s b k x r → 9 ≤ k + length us → Flat b rest → IsTurned (columns b us ++ rest) s b c g
unfolding says after
turn_from b c g [] rest s h k x r w le flat = absurd (omega (arith, le, w.count, w.few_wrong, w.short))
turn_from b c g (v ∷ us) rest s h k x r w le flat = elim (one_column b v c g s h) [
  | turning frame ready ↦
      let q = reports_nothing b true [] (columns b us ++ rest) (step (control b v) s) (flat_append b (columns b us) rest (flat_columns b us) flat) ready in
      record { frame = ap₂ (λ (xs ys : List Listed). xs ++ ys) frame q.nothing ∙ append-nil _; ready = q.ready }
  | waiting nothing heard later ↦
      let l = later k x r w in
      let q = turn_from b c g us rest (step (control b v) s) heard l.0 l.1 l.2 l.4 (let e = l.3 in omega (arith, le, e)) flat in
      record { frame = ap (λ (xs : List Listed). xs ++ says (columns b us ++ rest) (step (control b v) s)) nothing ∙ q.frame; ready = q.ready }
]

-- nine columns of the other level are a change
pub turn : (b c : Bool) (g : List ℕ) (us : List Bool) (rest : List Cell) (s : State) → 9 ≤ length us → Flat b rest → Ready s (not b) c g → IsTurned (columns b us ++ rest) s b c g
turn b c g us rest s le flat was = turn_from b c g us rest s (was.heard, was.counting, was.group) 0 0 0 (start_waiting s b) (omega (arith, le)) flat

-- whether a level is the last one heard
abbrev pub is_heard : Bool → Option Bool → Bool
is_heard b None = false
is_heard b (Some v) = same b v

pub other_heard : (b : Bool) → same b (not b) ≡ false
other_heard b = grind arith

columns_say : (b c : Bool) (g : List ℕ) (us : List Bool) (s : State) → Heard s (not b) c g → says (columns b us) s ≡ cond (is_heard b (after (columns b us) s).heard) (ends true c g) []
unfolding says after
columns_say b c g [] s h = sym (ap (λ (x : Option Bool). cond (is_heard b x) (ends true c g) []) h.0 ∙ ap (λ (t : Bool). cond t (ends true c g) []) (other_heard b))
columns_say b c g (v ∷ us) s h = elim (one_column b v c g s h) [
  | turning frame ready ↦
      let q = reports_nothing b true [] (columns b us) (step (control b v) s) (flat_columns b us) ready in
      ap₂ (λ (xs ys : List Listed). xs ++ ys) frame q.nothing ∙ append-nil _
      ∙ sym (ap (λ (x : Option Bool). cond (is_heard b x) (ends true c g) []) q.ready.heard ∙ ap (λ (t : Bool). cond t (ends true c g) []) (same_self b))
  | waiting nothing heard later ↦ ap (λ (xs : List Listed). xs ++ says (columns b us) (step (control b v) s)) nothing ∙ columns_say b c g us (step (control b v) s) heard
]

-- of fewer the frame is reported where the level is heard at last
pub fewer_said : (b c : Bool) (g : List ℕ) (us : List Bool) (s : State) → Ready s (not b) c g → says (columns b us) s ≡ cond (is_heard b (after (columns b us) s).heard) (ends true c g) []
fewer_said b c g us s was = columns_say b c g us s (was.heard, was.counting, was.group)

-- The first level that is heard is no change.

-- no level was heard yet
pub record Unheard (s : State) (b : Bool) : Type 0 where
  pub heard : s.heard ≡ None
  pub trail : Trail b s.marks s.recent
  pub counting : s.counting ≡ false
  pub group : s.group ≡ []

data First (s : State) (b v : Bool) : Type 0 where
  hearing : said (control b v) s ≡ [] → Ready (step (control b v) s) b false [] → First s b v
  going_on :
      said (control b v) s ≡ [] → Unheard (step (control b v) s) b
      → ((k x r : ℕ) → Waiting s b k x r → (k2 x2 r2 : ℕ) × (k2 ≡ suc k) × Waiting (step (control b v) s) b k2 x2 r2) → First s b v

first_heard : (b : Bool) (s : State) → s.heard ≡ None → three_have b (column b ∷ s.marks) ≡ true → column_state false b s ≡ turned false (column b ∷ s.marks) (Some b) (false ∷ s.recent) s
first_heard b s e h =
    ap₂ (λ (t : Bool) (x : Option Bool). turned (differ (hears t b) x) (column b ∷ s.marks) (newer (hears t b) x) (false ∷ s.recent) s) h e
    ∙ ap (λ (d : Bool). turned d (column b ∷ s.marks) (Some b) (false ∷ s.recent) s) (none_differ (Some b))

first_said : (w : Bool) (s : State) → s.heard ≡ None → column_said w s ≡ []
first_said w s e =
    ap (λ (x : Option Bool). ends (differ (heard_at w s) x) s.counting s.group) e ∙ ap (λ (d : Bool). ends d s.counting s.group) (none_differ (heard_at w s))

first_column : (b v : Bool) (s : State) → Unheard s b → First s b v
first_column b v s h = elim (taken_cases b v s.recent) [
  | inl e ↦ by_three e (three_have b (column b ∷ s.marks)) refl
  | inr wrong ↦
      let g = grows b s.marks s.recent wrong.allowed h.trail in
      let now = step_wrong b v s wrong.other ∙ column_alone true (not b) s g.none in
      going_on (first_said (taken b v s.recent) s h.heard)
      (subst (λ (x : State). Unheard x b) (sym now) (record { heard = h.heard; trail = g.trail; counting = h.counting; group = h.group }))
      (λ k x r w. (suc k, suc x, 0, refl, subst (λ (t : State). Waiting t b (suc k) (suc x) 0) (sym now) (wait_wrong s (turned false (column (not b) ∷ s.marks) s.heard (true ∷ s.recent) s) b k x r w wrong.allowed refl)))
]
  where
    by_three : taken b v s.recent ≡ b → (t : Bool) → three_have b (column b ∷ s.marks) ≡ t → First s b v
    by_three e true is = grind (arith, first_said, taken, State, step_right, first_heard, clear_trail, column_clear)
    by_three e false is =
        let now = step_right b v s e ∙ column_alone false b s is in
        going_on (first_said (taken b v s.recent) s h.heard)
        (subst (λ (x : State). Unheard x b) (sym now) (record { heard = h.heard; trail = clear_trail b (column b ∷ s.marks) (false ∷ s.recent) (column_clear b s.marks); counting = h.counting; group = h.group }))
        (λ k x r w. (suc k, x, suc r, refl, subst (λ (t : State). Waiting t b (suc k) x (suc r)) (sym now) (wait_right s (turned false (column b ∷ s.marks) s.heard (false ∷ s.recent) s) b k x r w is refl refl)))

begin_from : (b : Bool) (us : List Bool) (s : State) → Unheard s b → (k x r : ℕ) → Waiting s b k x r → 9 ≤ k + length us → ReportsNothing (columns b us) s b false []
unfolding says after
begin_from b [] s h k x r w le = absurd (omega (arith, le, w.count, w.few_wrong, w.short))
begin_from b (v ∷ us) s h k x r w le = elim (first_column b v s h) [
  | hearing nothing ready ↦
      let q = reports_nothing b false [] (columns b us) (step (control b v) s) (flat_columns b us) ready in
      record { nothing = ap₂ (λ (xs ys : List Listed). xs ++ ys) nothing q.nothing; ready = q.ready }
  | going_on nothing unheard later ↦
      let l = later k x r w in
      let q = begin_from b us (step (control b v) s) unheard l.0 l.1 l.2 l.4 (let e = l.3 in omega (arith, le, e)) in
      record { nothing = ap₂ (λ (xs ys : List Listed). xs ++ ys) nothing q.nothing; ready = q.ready }
]

pub fresh_unheard : (b : Bool) → Unheard fresh b
fresh_unheard b = record { heard = refl; trail = clear_trail b [] [] refl; counting = refl; group = refl }

-- of nine columns from the start on their level is heard
pub begin : (b : Bool) (us : List Bool) → 9 ≤ length us → ReportsNothing (columns b us) fresh b false []
begin b us le = begin_from b us fresh (fresh_unheard b) 0 0 0 (start_waiting fresh b) (omega (arith, le))

begin_says : (b : Bool) (us : List Bool) (s : State) → Unheard s b → says (columns b us) s ≡ []
unfolding says after
begin_says b [] s h = refl
begin_says b (v ∷ us) s h = elim (first_column b v s h) [
  | hearing nothing ready ↦
      let q = reports_nothing b false [] (columns b us) (step (control b v) s) (flat_columns b us) ready in
      ap₂ (λ (xs ys : List Listed). xs ++ ys) nothing q.nothing
  | going_on nothing unheard later ↦ ap₂ (λ (xs ys : List Listed). xs ++ ys) nothing (begin_says b us (step (control b v) s) unheard)
]

pub begin_few : (b : Bool) (us : List Bool) → says (columns b us) fresh ≡ []
begin_few b us = begin_says b us fresh (fresh_unheard b)

-- Which levels were taken does not hang on what was heard.

pub turned_marks : (c : Bool) (ms : List Mark) (h : Option Bool) (rs : List Bool) (s : State) → (turned c ms h rs s).marks ≡ ms
turned_marks c ms h rs s = grind arith

pub turned_heard : (c : Bool) (ms : List Mark) (h : Option Bool) (rs : List Bool) (s : State) → (turned c ms h rs s).heard ≡ h
turned_heard c ms h rs s = grind arith

pub state_marks : (f w : Bool) (s : State) → (column_state f w s).marks ≡ column w ∷ s.marks
state_marks f w s = turned_marks (differ (heard_at w s) s.heard) (column w ∷ s.marks) (newer (heard_at w s) s.heard) (f ∷ s.recent) s

pub state_recent : (f w : Bool) (s : State) → (column_state f w s).recent ≡ f ∷ s.recent
state_recent f w s = turned_recent (differ (heard_at w s) s.heard) (column w ∷ s.marks) (newer (heard_at w s) s.heard) (f ∷ s.recent) s

pub record SameMarks (s t : State) : Type 0 where
  pub marks : s.marks ≡ t.marks
  pub recent : s.recent ≡ t.recent

columns_same : (b : Bool) (us : List Bool) (s t : State) → SameMarks s t → SameMarks (after (columns b us) s) (after (columns b us) t)
unfolding after
columns_same b [] s t h = h
columns_same b (v ∷ us) s t h = grind (arith, step, control, taken, state_marks, same, state_recent, columns_same b us)

-- a state in which a level was heard, without a change
abbrev pub heard_once : Bool → State
heard_once b = record { marks = []; heard = Some b; counting = false; group = []; recent = [] }

pub once_ready : (b : Bool) → Ready (heard_once b) b false []
once_ready b = record { heard = refl; trail = clear_trail b [] [] refl; counting = refl; group = refl }

same_state : (s t : State) → SameMarks s t → s.heard ≡ t.heard → s.counting ≡ t.counting → s.group ≡ t.group → s ≡ t
same_state s t m h c g = λ i. record { marks = m.marks i; heard = h i; counting = c i; group = g i; recent = m.recent i }

-- after nine columns it is as if their level had been heard before
pub begin_after : (b : Bool) (us : List Bool) → 9 ≤ length us → after (columns b us) fresh ≡ after (columns b us) (heard_once b)
begin_after b us le =
    let p = begin b us le in
    let q = reports_nothing b false [] (columns b us) (heard_once b) (flat_columns b us) (once_ready b) in
    same_state (after (columns b us) fresh) (after (columns b us) (heard_once b)) (columns_same b us fresh (heard_once b) (record { marks = refl; recent = refl }))
    (p.ready.heard ∙ sym q.ready.heard) (p.ready.counting ∙ sym q.ready.counting) (p.ready.group ∙ sym q.ready.group)

-- Whatever was heard before, nine columns settle it.

pub record IsSettled (s : State) (b : Bool) : Type 0 where
  pub counts : Bool
  pub group : List ℕ
  pub ready : Ready s b counts group

settle_from : (b : Bool) (us : List Bool) (rest : List Cell) (s : State) (k x r : ℕ) → Waiting s b k x r → 9 ≤ k + length us → Flat b rest → IsSettled (after (columns b us ++ rest) s) b
unfolding after
settle_from b [] rest s k x r w le flat = absurd (omega (arith, le, w.count, w.few_wrong, w.short))
settle_from b (v ∷ us) rest s k x r w le flat = elim (taken_cases b v s.recent) [
  | inl e ↦ elim (by_three (three_have b (column b ∷ s.marks)) refl) [
    | inl is ↦
        let st = column_state false b s in
        let heard : st.heard ≡ Some b = turned_heard (differ (heard_at b s) s.heard) (column b ∷ s.marks) (newer (heard_at b s) s.heard) (false ∷ s.recent) s ∙ ap (λ (t : Bool). newer (hears t b) s.heard) is in
        let trail = subst (λ (ms : List Mark). Trail b ms st.recent) (sym (state_marks false b s)) (clear_trail b (column b ∷ s.marks) st.recent (column_clear b s.marks)) in
        let ready : Ready st b st.counting st.group = record { heard = heard; trail = trail; counting = refl; group = refl } in
        let q = reports_nothing b st.counting st.group (columns b us ++ rest) st (flat_append b (columns b us) rest (flat_columns b us) flat) ready in
        subst (λ (t : State). IsSettled (after (columns b us ++ rest) t) b) (sym (step_right b v s e)) (record { counts = st.counting; group = st.group; ready = q.ready })
    | inr is ↦
        let st = column_state false b s in
        settle_from b us rest (step (control b v) s) (suc k) x (suc r) (subst (λ (t : State). Waiting t b (suc k) x (suc r)) (sym (step_right b v s e)) (wait_right s st b k x r w is (state_marks false b s) (state_recent false b s))) (omega (arith, le)) flat
  ]
  | inr wrong ↦
      settle_from b us rest (step (control b v) s) (suc k) (suc x) 0 (subst (λ (t : State). Waiting t b (suc k) (suc x) 0) (sym (step_wrong b v s wrong.other)) (wait_wrong s (column_state true (not b) s) b k x r w wrong.allowed (state_recent true (not b) s))) (omega (arith, le)) flat
]
  where
    by_three : (t : Bool) → three_have b (column b ∷ s.marks) ≡ t → (three_have b (column b ∷ s.marks) ≡ true) ⊎ (three_have b (column b ∷ s.marks) ≡ false)
    by_three true is = inl is
    by_three false is = inr is

pub settle : (b : Bool) (us : List Bool) (rest : List Cell) (s : State) → 9 ≤ length us → Flat b rest → IsSettled (after (columns b us ++ rest) s) b
settle b us rest s le flat = settle_from b us rest s 0 0 0 (start_waiting s b) (omega (arith, le)) flat
