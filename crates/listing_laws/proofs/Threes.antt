-- Three neighbouring columns of one level among cells, and when their level is heard.
use Rattle.std.proofs.Common.{◌≡◌, ◌+◌, ◌≤◌, Bool, true, false, not, ◌&&◌, ◌||◌, List, [], ◌∷◌, ◌++◌, length, Option, Some, refl, sym, ap, ap₂, subst, ◌∙◌, arith, inl, inr, ◌⊎◌}
use Rattle.tmds_word.proofs.Below.{and-left, and-right}
use Rattle.frame_build.specs.FrameEvent.{Mark, column, gap}
use Rattle.frame_build.specs.Change.{three_have, newer, differ}
use Rattle.listing_laws.proofs.Machine.{hears}
use Rattle.listing_laws.proofs.Cells.{Cell, control, pixels, parted, State, few, same, same_is, same_self, taken_is, heard_at, column_state, step, after, fine}
use Rattle.listing_laws.proofs.Ready.{Flat, Ready, Trail, clear_trail, gap_clear, grows, not_it, column_clear, reports_nothing, columns, flat_columns, is_heard, other_heard, turned_heard, state_marks, state_recent}

-- whether three neighbouring columns of a level were received, after these marks
unfoldable pub met : Bool → List Mark → List Cell → Bool
met b ms [] = false
met b ms (control u v ∷ ts) = three_have b (column v ∷ ms) || met b (column v ∷ ms) ts
met b ms (pixels bytes ∷ ts) = met b (gap ∷ ms) ts
met b ms (parted ∷ ts) = met b (gap ∷ ms) ts

-- the marks of cells, after these
unfoldable pub push : List Cell → List Mark → List Mark
push [] ms = ms
push (control u v ∷ ts) ms = push ts (column v ∷ ms)
push (pixels bytes ∷ ts) ms = push ts (gap ∷ ms)
push (parted ∷ ts) ms = push ts (gap ∷ ms)

or_assoc : (a b c : Bool) → (a || (b || c)) ≡ ((a || b) || c)
or_assoc a b c = grind arith

pub met_append : (b : Bool) (ms : List Mark) (xs ys : List Cell) → met b ms (xs ++ ys) ≡ (met b ms xs || met b (push xs ms) ys)
unfolding met push
met_append b ms [] ys = refl
met_append b ms (control u v ∷ xs) ys = ap (λ (t : Bool). three_have b (column v ∷ ms) || t) (met_append b (column v ∷ ms) xs ys) ∙ or_assoc (three_have b (column v ∷ ms)) (met b (column v ∷ ms) xs) (met b (push xs (column v ∷ ms)) ys)
met_append b ms (pixels bytes ∷ xs) ys = met_append b (gap ∷ ms) xs ys
met_append b ms (parted ∷ xs) ys = met_append b (gap ∷ ms) xs ys

-- the two newest marks alone count
pub met_two : (b : Bool) (m n : Mark) (ms ns : List Mark) (ts : List Cell) → met b (m ∷ (n ∷ ms)) ts ≡ met b (m ∷ (n ∷ ns)) ts
unfolding met
met_two b m n ms ns [] = refl
met_two b m n ms ns (control u v ∷ ts) = ap (λ (t : Bool). three_have b (column v ∷ (m ∷ (n ∷ ms))) || t) (met_two b (column v) m (n ∷ ms) (n ∷ ns) ts)
met_two b m n ms ns (pixels bytes ∷ ts) = met_two b gap m (n ∷ ms) (n ∷ ns) ts
met_two b m n ms ns (parted ∷ ts) = met_two b gap m (n ∷ ms) (n ∷ ns) ts

push_more : (ts : List Cell) (xs ms : List Mark) → push ts (xs ++ ms) ≡ push ts xs ++ ms
unfolding push
push_more [] xs ms = refl
push_more (control u v ∷ ts) xs ms = push_more ts (column v ∷ xs) ms
push_more (pixels bytes ∷ ts) xs ms = push_more ts (gap ∷ xs) ms
push_more (parted ∷ ts) xs ms = push_more ts (gap ∷ xs) ms

length_push : (ts : List Cell) (xs : List Mark) → length (push ts xs) ≡ length ts + length xs
unfolding push
length_push [] xs = omega arith
length_push (control u v ∷ ts) xs = let e = length_push ts (column v ∷ xs) in omega (arith, e)
length_push (pixels bytes ∷ ts) xs = let e = length_push ts (gap ∷ xs) in omega (arith, e)
length_push (parted ∷ ts) xs = let e = length_push ts (gap ∷ xs) in omega (arith, e)

-- after two cells it is no matter what was before them
pub met_after : (b : Bool) (xs : List Cell) (ms : List Mark) (ys : List Cell) → 2 ≤ length xs → met b (push xs ms) ys ≡ met b (push xs []) ys
met_after b xs ms ys le =
    ap (λ (ns : List Mark). met b ns ys) (push_more xs [] ms) ∙ by_marks (push xs []) (let e = length_push xs [] in omega (arith, e, le))
  where
    by_marks : (ns : List Mark) → 2 ≤ length ns → met b (ns ++ ms) ys ≡ met b ns ys
    by_marks [] l = absurd (omega (arith, l))
    by_marks (m ∷ []) l = absurd (omega (arith, l))
    by_marks (m ∷ (n ∷ ns)) l = met_two b m n (ns ++ ms) ns ys

-- Where no column is a third wrong one the marks are those of the received columns.

pub fine_front : (xs ys : List Cell) (rs : List Bool) → fine rs (xs ++ ys) ≡ true → fine rs xs ≡ true
unfolding fine
fine_front [] ys rs h = refl
fine_front (control u v ∷ xs) ys rs h = ap₂ (λ (a b : Bool). a && b) (and-left (same u v || few rs) _ h) (fine_front xs ys (not (same u v) ∷ rs) (and-right (same u v || few rs) _ h))
fine_front (pixels bytes ∷ xs) ys rs h = fine_front xs ys [] h
fine_front (parted ∷ xs) ys rs h = fine_front xs ys [] h

step_taken : (u v : Bool) (s : State) → (same u v || few s.recent) ≡ true → step (control u v) s ≡ column_state (not (same u v)) v s
step_taken u v s h = ap (λ (w : Bool). column_state (not (same u w)) w s) (taken_is u v s.recent h)

pub fine_rest : (xs ys : List Cell) (s : State) → fine s.recent (xs ++ ys) ≡ true → fine (after xs s).recent ys ≡ true
unfolding fine after
fine_rest [] ys s h = h
fine_rest (control u v ∷ xs) ys s h = grind (arith, step_taken, and-left, same, few, step, control, State, state_recent, fine, and-right, fine_rest xs ys)
fine_rest (pixels bytes ∷ xs) ys s h = fine_rest xs ys (step (pixels bytes) s) h
fine_rest (parted ∷ xs) ys s h = fine_rest xs ys (step parted s) h

pub marks_after : (xs : List Cell) (s : State) → fine s.recent xs ≡ true → (after xs s).marks ≡ push xs s.marks
unfolding fine after push
marks_after [] s h = refl
marks_after (control u v ∷ xs) s h = grind (arith, step_taken, and-left, same, few, step, control, State, state_recent, state_marks, fine, marks_after xs)
marks_after (pixels bytes ∷ xs) s h = marks_after xs (step (pixels bytes) s) h
marks_after (parted ∷ xs) s h = marks_after xs (step parted s) h

-- Of columns of the other level no three are received.

three_other : (b : Bool) (ms : List Mark) → three_have (not b) (column b ∷ ms) ≡ false
three_other b ms = grind (arith, not_it)

level_cases : (b v : Bool) → (same b v ≡ true) × (v ≡ b) ⊎ (same b v ≡ false) × (v ≡ not b)
level_cases b v = grind arith

pub none_met : (b : Bool) (ts : List Cell) (ms : List Mark) (rs : List Bool) → Flat b ts → fine rs ts ≡ true → Trail b ms rs → met (not b) ms ts ≡ false
unfolding met fine
none_met b [] ms rs flat h t = refl
none_met b (control u v ∷ ts) ms rs flat h t =
    let e = same_is b u (and-left _ _ flat) in
    let k = subst (λ (x : Bool). (same x v || few rs) ≡ true) e (and-left (same u v || few rs) _ h) in
    let f = subst (λ (x : Bool). fine (not (same x v) ∷ rs) ts ≡ true) e (and-right (same u v || few rs) _ h) in
    let rest = and-right (same b u) _ flat in
    elim (level_cases b v) [
      | inl right ↦
          ap (λ (x : Bool). three_have (not b) (column x ∷ ms) || met (not b) (column x ∷ ms) ts) right.1
          ∙ ap₂ (λ (x y : Bool). x || y) (three_other b ms) (none_met b ts (column b ∷ ms) (not (same b v) ∷ rs) rest f (clear_trail b (column b ∷ ms) (not (same b v) ∷ rs) (column_clear b ms)))
      | inr wrong ↦
          let allowed = subst (λ (x : Bool). (x || few rs) ≡ true) wrong.0 k in
          let g = grows b ms rs allowed t in
          ap (λ (x : Bool). three_have (not b) (column x ∷ ms) || met (not b) (column x ∷ ms) ts) wrong.1
          ∙ ap₂ (λ (x y : Bool). x || y) g.none (none_met b ts (column (not b) ∷ ms) (true ∷ rs) rest (subst (λ (x : Bool). fine (not x ∷ rs) ts ≡ true) wrong.0 f) g.trail)
    ]
none_met b (pixels bytes ∷ ts) ms rs flat h t = absurd cc
none_met b (parted ∷ ts) ms rs flat h t = none_met b ts (gap ∷ ms) [] flat h (clear_trail b (gap ∷ ms) [] (gap_clear (not b) ms))

-- A level is heard exactly where three neighbouring columns of it were received.

unheard_newer : (t b : Bool) (h : Option Bool) → is_heard b h ≡ false → is_heard b (newer (hears t (not b)) h) ≡ false
unheard_newer t b h k = grind (arith, other_heard)

pub three_wrong : (b : Bool) (ms : List Mark) → three_have b (column (not b) ∷ ms) ≡ false
three_wrong b ms = grind arith

pub heard_met : (b : Bool) (vs : List Bool) (s : State) → fine s.recent (columns b vs) ≡ true → is_heard b s.heard ≡ false → is_heard b (after (columns b vs) s).heard ≡ met b s.marks (columns b vs)
unfolding met fine after
heard_met b [] s h un = un
heard_met b (v ∷ vs) s h un =
    let now = step_taken b v s (and-left (same b v || few s.recent) _ h) in
    let rest = and-right (same b v || few s.recent) (fine (not (same b v) ∷ s.recent) (columns b vs)) h in
    elim (level_cases b v) [
      | inl right ↦ by_three (λ x f un2. heard_met b vs x f un2) (now ∙ ap₂ (λ (x y : Bool). column_state (not x) y s) right.0 right.1) (subst (λ (x : Bool). fine (not x ∷ s.recent) (columns b vs) ≡ true) right.0 rest) right.1 (three_have b (column b ∷ s.marks)) refl
      | inr wrong ↦ grind (arith, column_state, step, control, is_heard, turned_heard, heard_at, unheard_newer, fine, columns, state_recent, heard_met b vs)
    ]
  where
    by_three : ((x : State) → fine x.recent (columns b vs) ≡ true → is_heard b x.heard ≡ false → is_heard b (after (columns b vs) x).heard ≡ met b x.marks (columns b vs)) → step (control b v) s ≡ column_state false b s → fine (false ∷ s.recent) (columns b vs) ≡ true → v ≡ b → (t : Bool) → three_have b (column b ∷ s.marks) ≡ t
        → is_heard b (after (columns b vs) (step (control b v) s)).heard ≡ (three_have b (column v ∷ s.marks) || met b (column v ∷ s.marks) (columns b vs))
    by_three ih is f e true three =
        let st = column_state false b s in
        let heard : st.heard ≡ Some b = turned_heard (differ (heard_at b s) s.heard) (column b ∷ s.marks) (newer (heard_at b s) s.heard) (false ∷ s.recent) s ∙ ap (λ (t : Bool). newer (hears t b) s.heard) three in
        let trail = subst (λ (ms : List Mark). Trail b ms st.recent) (sym (state_marks false b s)) (clear_trail b (column b ∷ s.marks) st.recent (column_clear b s.marks)) in
        let ready : Ready st b st.counting st.group = record { heard = heard; trail = trail; counting = refl; group = refl } in
        let q = reports_nothing b st.counting st.group (columns b vs) st (flat_columns b vs) ready in
        ap (λ (t : State). is_heard b (after (columns b vs) t).heard) is ∙ ap (is_heard b) q.ready.heard ∙ same_self b
        ∙ sym (ap (λ (x : Bool). three_have b (column x ∷ s.marks) || met b (column x ∷ s.marks) (columns b vs)) e ∙ ap (λ (t : Bool). t || met b (column b ∷ s.marks) (columns b vs)) three)
    by_three ih is f e false three = grind (arith, column_state, is_heard, turned_heard, heard_at, hears, State, after, columns, fine, state_recent)
