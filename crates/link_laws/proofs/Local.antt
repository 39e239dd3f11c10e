-- Locality: columns are cut at the first control column after one that is none, whatever stands before, so what is
-- reported of a period does not depend on what was received before its control columns, or after its next one.
use Rattle.std.proofs.Common.{◌≡◌, ℕ, ◌+◌, ◌≤◌, Bool, true, false, not, List, [], ◌∷◌, ◌++◌, length, map, take, reverse, refl, ap, ap₂, sym, ◌∙◌, subst, append_assoc, arith, length-append}
use Rattle.std.proofs.lemmas.List.{append-nil, take_at, length-map, map-append, reverse-append, length-reverse, take-append-le}
use Rattle.std.proofs.lemmas.Bool.{le-leb}
use Rattle.std.proofs.lemmas.List.Folds.{list_all-append}
use Rattle.std.specs.Prelude.{◌&&◌, ◌==◌}
use Rattle.std.specs.List.{list_all}
use Rattle.tmds_word.specs.Column.{Column}
use Rattle.tmds_word.proofs.Below.{and-left}
use Rattle.terc4.specs.Columns.{is_control_column}
use Rattle.link_laws.proofs.Computed.{not_true}
use Rattle.period_grammar.specs.Cut.{before, runs, Stretch as Cut, stretch, stretches}
use Rattle.period_grammar.specs.Events.{EventAt, all_at, reported_before}
use Rattle.period_grammar.specs.Heard.{other_words, in_runs, last_run, in_gap, at_close, so_far, reach, closing, reported_from, heard_so_far}
use Rattle.period_grammar.proofs.Step.{total, stretches_total}
use Rattle.period_grammar.proofs.Joined.{reported_before_is}
use Rattle.link_laws.proofs.Cutting.{AllControl, NoneControl, begins}
use Rattle.link_laws.proofs.Rows.{and_both}
use Rattle.link_laws.proofs.Between.{heads, begins_heads, some, some_cut, none_begins, none_left}
use Rattle.link_laws.proofs.CutPeriods.{both}
use Rattle.island_pack.specs.Periods.{DataIsland, Period, control as control_period, video, island, ctl, has_preamble as announces}
use Rattle.period_grammar.specs.Column.{value_of}
use Rattle.period_grammar.specs.Heard.{has_preamble}
use Rattle.link_laws.specs.Account.{open_video_row, open_island_row}
use Rattle.link_laws.specs.Literal.{video_placed, island_placed, period_placed}
use Rattle.link_laws.specs.PeriodLaws.{AreControl}
use Rattle.link_laws.specs.Local.{StandsAnywhere, VideoAnywhere, IslandAnywhere, IslandClosesAnywhere}
use Rattle.link_laws.proofs.Conformed.{is_video_of, is_island_of, HasValues}
use Rattle.link_laws.proofs.Joining.{ArrivesPeriod, packets, IsBetween, inner_gap}
use Rattle.link_laws.proofs.Placed.{period_places, island_shuts}
use Rattle.link_laws.proofs.Guards.{opens_island, guards_close}
use Rattle.link_laws.proofs.PeriodLaws.{received_one}

-- Cutting.

-- whether no control column is the last
abbrev pub no_control_last : List Column → Bool
no_control_last [] = true
no_control_last (c ∷ []) = not (is_control_column c)
no_control_last (c ∷ (d ∷ cs)) = no_control_last (d ∷ cs)

before_some : (p : Bool) (c : Column) (xs : List Cut) → some (before p c xs) ≡ true
before_some p c xs = grind arith

some_columns : (c : Column) (cs : List Column) → some (stretches (c ∷ cs)) ≡ true
unfolding stretches
some_columns c cs = before_some (is_control_column c) c (stretches cs)

before_front : (p : Bool) (c : Column) (xs ys : List Cut) → some xs ≡ true → before p c (xs ++ ys) ≡ before p c xs ++ ys
before_front p c xs ys h = grind arith

before_begins : (c : Column) (ys : List Cut) → begins ys ≡ true → before false c ys ≡ stretch [] (c ∷ []) ∷ ys
before_begins c ys h = grind arith

-- whatever was received before, a control column after one that is none begins a stretch: so columns are cut on each
-- side of that place as if the others were not there
pub stretches_append : (cs ys : List Column) → no_control_last cs ≡ true → heads ys ≡ true → stretches (cs ++ ys) ≡ stretches cs ++ stretches ys
unfolding stretches
stretches_append [] ys s h = refl
stretches_append (c ∷ []) ys s h = ap (λ p. before p c (stretches ys)) (not_true _ s) ∙ before_begins c (stretches ys) (begins_heads ys h) ∙ sym (ap (λ p. before p c [] ++ stretches ys) (not_true _ s))
stretches_append (c ∷ (d ∷ cs)) ys s h =
    ap (before (is_control_column c) c) (stretches_append (d ∷ cs) ys s h) ∙ before_front (is_control_column c) c (stretches (d ∷ cs)) (stretches ys) (some_columns d cs)

-- stretches from column j on, each with what is reported at the first column after it
abbrev pub closed_from : ℕ → List Cut → List EventAt
closed_from j [] = []
closed_from j (x ∷ xs) = so_far j x ++ (closing j x ++ closed_from (j + reach x) xs)

reported_append : (j k : ℕ) (xs ys : List Cut) → some ys ≡ true → k ≡ j + total xs → reported_from j (xs ++ ys) ≡ closed_from j xs ++ reported_from k ys
reported_append j k [] ys s e = let same : j ≡ k = omega arith in ap (λ n. reported_from n ys) same
reported_append j k (x ∷ []) [] s e = grind arith
reported_append j k (x ∷ []) (y ∷ ys) s e = grind (arith, append_assoc, append-nil)
reported_append j k (x ∷ (z ∷ xs)) ys s e =
    let ih = reported_append (j + reach x) k (z ∷ xs) ys s (omega arith) in
    ap (λ ts. so_far j x ++ (closing j x ++ ts)) ih
    ∙ ap (λ ts. so_far j x ++ ts) (sym (append_assoc (closing j x) (closed_from (j + reach x) (z ∷ xs)) (reported_from k ys)))
    ∙ sym (append_assoc (so_far j x) (closing j x ++ closed_from (j + reach x) (z ∷ xs)) (reported_from k ys))

-- what is reported of columns after others is what is reported of those alone, as if they began there
pub heard_append : (cs ys : List Column) → no_control_last cs ≡ true → heads ys ≡ true → heard_so_far (cs ++ ys) ≡ closed_from 0 (stretches cs) ++ reported_from (length cs) (stretches ys)
unfolding heard_so_far
heard_append cs ys s h = ap (reported_from 0) (stretches_append cs ys s h) ∙ reported_append 0 (length cs) (stretches cs) (stretches ys) (some_cut ys h) (size cs (stretches_total cs))
  where
    size : (cs : List Column) → total (stretches cs) ≡ length cs → length cs ≡ 0 + total (stretches cs)
    size cs e = omega arith

-- Any columns: control columns last, and before them none.
pub record Front (cs : List Column) : Type 0 where
  pub front : List Column
  pub control : List Column
  pub is : cs ≡ front ++ control
  pub no_control : no_control_last front ≡ true
  pub all : AllControl control

one_more : (c : Column) (front control : List Column) (p : Bool) → is_control_column c ≡ p → no_control_last front ≡ true → AllControl control → Front (c ∷ (front ++ control))
one_more c [] control true e s all = record { front = []; control = c ∷ control; is = refl; no_control = refl; all = and_both _ _ e all }
one_more c [] control false e s all = record { front = c ∷ []; control = control; is = refl; no_control = ap not e; all = all }
one_more c (d ∷ front) control p e s all = record { front = c ∷ (d ∷ front); control = control; is = refl; no_control = s; all = all }

pub front_of : (cs : List Column) → Front cs
front_of [] = record { front = []; control = []; is = refl; no_control = refl; all = refl }
front_of (c ∷ cs) =
    let f = front_of cs in
    subst (λ xs. Front (c ∷ xs)) (sym f.is) (one_more c f.front f.control (is_control_column c) refl f.no_control f.all)

-- A period's columns after control columns.

-- what is reported of control columns from column j on to the first column after them
abbrev pub control_events : ℕ → List Column → List EventAt
control_events j control = in_runs j (runs control) ++ all_at (j + length control) (last_run (runs control))

going : (j : ℕ) (control : List Column) (g : Column) (gap : List Column)
    → so_far j (stretch control (g ∷ gap)) ≡ control_events j control ++ in_gap (j + length control) control (g ∷ gap)
going j control g gap = sym (append_assoc (in_runs j (runs control)) (all_at (j + length control) (last_run (runs control))) (in_gap (j + length control) control (g ∷ gap)))

-- to their end
gap_reported : (j : ℕ) (control : List Column) (g : Column) (gap : List Column) → 1 ≤ length control → AllControl control → NoneControl (g ∷ gap)
    → reported_from j (stretches (control ++ (g ∷ gap))) ≡ control_events j control ++ in_gap (j + length control) control (g ∷ gap)
gap_reported j control g gap one all none =
    ap (λ xs. reported_from j (stretches (control ++ xs))) (sym (append-nil (g ∷ gap)))
    ∙ ap (reported_from j) (both control (g ∷ gap) [] one (omega arith) all none none_begins ∙ none_left (stretch control (g ∷ gap)))
    ∙ going j control g gap

pub next_cut : (j : ℕ) (c : Column) → is_control_column c ≡ true → stretches (c ∷ []) ≡ stretch (c ∷ []) [] ∷ []
unfolding stretches
next_cut j c h = ap (λ p. before p c []) h

one_reported : (j : ℕ) (c : Column) → reported_from j (stretch (c ∷ []) [] ∷ []) ≡ all_at j (other_words j c)
unfolding runs
one_reported j c = append-nil (all_at j (other_words j c))

-- to the control column after them
next_reported : (j e : ℕ) (control : List Column) (g : Column) (gap : List Column) (next : Column) → 1 ≤ length control → AllControl control → NoneControl (g ∷ gap) → is_control_column next ≡ true
    → e ≡ j + (length control + length (g ∷ gap))
    → reported_from j (stretches (control ++ ((g ∷ gap) ++ next ∷ [])))
    ≡ (control_events j control ++ in_gap (j + length control) control (g ∷ gap)) ++ (all_at e (at_close (j + length control) (g ∷ gap)) ++ all_at e (other_words e next))
next_reported j e control g gap next one all none h same =
    ap (reported_from j) (both control (g ∷ gap) (next ∷ []) one (omega arith) all none (begins_heads (next ∷ []) h) ∙ ap (λ xs. stretch control (g ∷ gap) ∷ xs) (next_cut j next h))
    ∙ ap₂ (λ (ts : List EventAt) (n : ℕ). ts ++ (all_at n (at_close (j + length control) (g ∷ gap)) ++ reported_from n (stretch (next ∷ []) [] ∷ []))) (going j control g gap) (sym same)
    ∙ ap (λ us. (control_events j control ++ in_gap (j + length control) control (g ∷ gap)) ++ (all_at e (at_close (j + length control) (g ∷ gap)) ++ us)) (one_reported e next)

-- Whatever was received before.

pub heads_append : (k c : List Column) (rest : List Column) → 1 ≤ length c → AllControl k → AllControl c → heads ((k ++ c) ++ rest) ≡ true
heads_append [] [] rest one a b = absurd (omega arith)
heads_append [] (c ∷ cs) rest one a b = and-left _ _ b
heads_append (k ∷ ks) c rest one a b = and-left _ _ a

pub all_append : (k c : List Column) → AllControl k → AllControl c → AllControl (k ++ c)
all_append k c a b = list_all-append is_control_column k c ∙ and_both _ _ a b

-- the control columns that stand before a period: those that were received last of any columns, and these
abbrev pub control_before : (earlier : List Column) → List Column → List Column
control_before earlier control = (front_of earlier).control ++ control

pub shifted : (earlier control rest : List Column) → earlier ++ (control ++ rest) ≡ (front_of earlier).front ++ (control_before earlier control ++ rest)
shifted earlier control rest =
    let f = front_of earlier in
    ap (λ xs. xs ++ (control ++ rest)) f.is ∙ append_assoc f.front f.control (control ++ rest) ∙ ap (λ xs. f.front ++ xs) (sym (append_assoc f.control control rest))

pub front_length : (earlier control : List Column) → length (front_of earlier).front + length (control_before earlier control) ≡ length earlier + length control
front_length earlier control =
    let f = front_of earlier in
    let a = ap length f.is in
    let b = length-append f.front f.control in
    let c = length-append f.control control in
    omega arith

-- what is reported before a period's second column
abbrev pub earlier_events : List Column → List Column → List EventAt
earlier_events earlier control = closed_from 0 (stretches (front_of earlier).front) ++ control_events (length (front_of earlier).front) (control_before earlier control)

regroup : (a b g c w : List EventAt) → a ++ ((b ++ g) ++ (c ++ w)) ≡ (a ++ b) ++ ((g ++ c) ++ w)
regroup a b g c w = simp append_assoc

-- to a period's end
pub gap_after : (earlier control : List Column) (g : Column) (gap : List Column) → 1 ≤ length control → AllControl control → NoneControl (g ∷ gap)
    → heard_so_far (earlier ++ (control ++ (g ∷ gap))) ≡ earlier_events earlier control ++ in_gap (length earlier + length control) (control_before earlier control) (g ∷ gap)
gap_after earlier control g gap one all none =
    let f = front_of earlier in
    let k = control_before earlier control in
    let long = length-append f.control control in
    let every = all_append f.control control f.all all in
    ap heard_so_far (shifted earlier control (g ∷ gap))
    ∙ heard_append f.front (k ++ (g ∷ gap)) f.no_control (heads_append f.control control (g ∷ gap) one f.all all)
    ∙ ap (λ ts. closed_from 0 (stretches f.front) ++ ts) (gap_reported (length f.front) k g gap (omega arith) every none)
    ∙ sym (append_assoc (closed_from 0 (stretches f.front)) (control_events (length f.front) k) (in_gap (length f.front + length k) k (g ∷ gap)))
    ∙ ap (λ n. earlier_events earlier control ++ in_gap n k (g ∷ gap)) (front_length earlier control)

-- to the control column after it
pub next_after : (earlier control : List Column) (g : Column) (gap : List Column) (next : Column) (e : ℕ) → 1 ≤ length control → AllControl control → NoneControl (g ∷ gap) → is_control_column next ≡ true
    → e ≡ length earlier + length control + length (g ∷ gap)
    → heard_so_far (earlier ++ (control ++ ((g ∷ gap) ++ next ∷ [])))
    ≡ earlier_events earlier control
    ++ ((in_gap (length earlier + length control) (control_before earlier control) (g ∷ gap) ++ all_at e (at_close (length earlier + length control) (g ∷ gap))) ++ all_at e (other_words e next))
next_after earlier control g gap next e one all none h same =
    let f = front_of earlier in
    let k = control_before earlier control in
    let long = length-append f.control control in
    let size = front_length earlier control in
    let every = all_append f.control control f.all all in
    ap heard_so_far (shifted earlier control ((g ∷ gap) ++ next ∷ []))
    ∙ heard_append f.front (k ++ ((g ∷ gap) ++ next ∷ [])) f.no_control (heads_append f.control control ((g ∷ gap) ++ next ∷ []) one f.all all)
    ∙ ap (λ ts. closed_from 0 (stretches f.front) ++ ts) (next_reported (length f.front) e k g gap next (omega arith) every none h (omega arith))
    ∙ regroup (closed_from 0 (stretches f.front)) (control_events (length f.front) k) (in_gap (length f.front + length k) k (g ∷ gap)) (all_at e (at_close (length f.front + length k) (g ∷ gap))) (all_at e (other_words e next))
    ∙ ap (λ n. earlier_events earlier control ++ ((in_gap n k (g ∷ gap) ++ all_at e (at_close n (g ∷ gap))) ++ all_at e (other_words e next))) size

nothing_yet : (b : ℕ) (control : List Column) (g : Column) → in_gap b control (g ∷ []) ≡ []
unfolding in_gap
nothing_yet b control g = refl

first_none : (g : Column) (gap : List Column) → NoneControl (g ∷ gap) → NoneControl (g ∷ [])
first_none g gap h = and_both _ _ (and-left _ _ h) refl

-- all that was reported before its second column
pub before_second : (earlier control : List Column) (g : Column) (gap rest : List Column) → 1 ≤ length control → AllControl control → NoneControl (g ∷ gap)
    → reported_before (length earlier + length control + 1) (heard_so_far (earlier ++ (control ++ ((g ∷ gap) ++ rest)))) ≡ earlier_events earlier control
before_second earlier control g gap rest one all none =
    let n = length earlier + length control + 1 in
    let first = earlier ++ (control ++ g ∷ []) in
    let size : length first ≡ n = omega (arith, length-append earlier (control ++ g ∷ []), length-append control (g ∷ [])) in
    let is : earlier ++ (control ++ ((g ∷ gap) ++ rest)) ≡ first ++ (gap ++ rest) =
    ap (λ xs. earlier ++ xs) (sym (append_assoc control (g ∷ []) (gap ++ rest))) ∙ sym (append_assoc earlier (control ++ g ∷ []) (gap ++ rest)) in
    reported_before_is n (earlier ++ (control ++ ((g ∷ gap) ++ rest)))
    ∙ ap (λ cs. heard_so_far (take n cs)) is
    ∙ ap heard_so_far (take_at first (gap ++ rest) n size)
    ∙ gap_after earlier control g [] one all (first_none g gap none)
    ∙ ap (λ ts. earlier_events earlier control ++ ts) (nothing_yet (length earlier + length control) (control_before earlier control) g)
    ∙ append-nil (earlier_events earlier control)

-- The preamble.

last_eight : (k c : List ℕ) → 8 ≤ length c → take 8 (reverse (k ++ c)) ≡ take 8 (reverse c)
last_eight k c long = ap (take 8) (reverse-append k c) ∙ take-append-le 8 (reverse c) (reverse k) (omega (arith, length-reverse c))

announces_last : (bits : ℕ) (k c : List ℕ) → 8 ≤ length c → announces bits (k ++ c) ≡ announces bits c
unfolding announces
announces_last bits k c long =
    ap₂ (λ (p : Bool) (vs : List ℕ). p && list_all (λ v. ctl v == bits) vs) (le-leb 8 (length (k ++ c)) (omega (arith, length-append k c)) ∙ sym (le-leb 8 (length c) long)) (last_eight k c long)

-- what stands before the last eight control columns is no matter
pub preamble_last : (bits : ℕ) (k c : List Column) → 8 ≤ length c → has_preamble bits (k ++ c) ≡ has_preamble bits c
unfolding has_preamble
preamble_last bits k c long =
    ap (announces bits) (map-append value_of k c) ∙ announces_last bits (map value_of k) (map value_of c) (omega (arith, length-map c value_of))

row_last : (b : ℕ) (k c : List Column) (p : Period) (ss rs : List Column) → 8 ≤ length c → period_placed b (k ++ c) p ss rs ≡ period_placed b c p ss rs
unfolding period_placed video_placed island_placed open_video_row open_island_row
row_last b k c (control_period runs_sent) ss rs long = refl
row_last b k c (video bytes) ss rs long = grind (arith, preamble_last)
row_last b k c (island x) ss rs long = grind (arith, preamble_last)

-- The laws.

places : (earlier control : List Column) (x : Period) (own reception : List Column) → 12 ≤ length control → IsBetween x → ArrivesPeriod x own reception → (b e : ℕ) → e ≡ b + length reception
    → in_gap b (control_before earlier control) reception ++ all_at e (at_close b reception) ≡ period_placed b control x own reception
places earlier control x own reception long i a b e same =
    let k = (front_of earlier).control in
    let size = length-append k control in
    ap (λ n. in_gap b (k ++ control) reception ++ all_at n (at_close b reception)) same
    ∙ period_places (k ++ control) x own reception (omega arith) i a b
    ∙ row_last b k control x own reception (omega arith)

stands : (x : Period) (own reception : List Column) → IsBetween x → ArrivesPeriod x own reception → NoneControl reception → 1 ≤ length reception → StandsAnywhere x own reception
stands x own [] i a none one earlier control next later h at = absurd (omega arith)
stands x own (g ∷ gap) i a none one earlier control next later h at =
    let long = h.long in
    let b = length earlier + length control in
    let e = b + length (g ∷ gap) in
    let front = earlier ++ (control ++ ((g ∷ gap) ++ next ∷ [])) in
    let all : earlier ++ (control ++ ((g ∷ gap) ++ next ∷ later)) ≡ front ++ later =
    ap (λ xs. earlier ++ (control ++ xs)) (sym (append_assoc (g ∷ gap) (next ∷ []) later))
    ∙ ap (λ xs. earlier ++ xs) (sym (append_assoc control ((g ∷ gap) ++ next ∷ []) later))
    ∙ sym (append_assoc earlier (control ++ ((g ∷ gap) ++ next ∷ [])) later) in
    let size : length front ≡ e + 1 = omega (arith, length-append earlier (control ++ ((g ∷ gap) ++ next ∷ [])), length-append control ((g ∷ gap) ++ next ∷ []), length-append (g ∷ gap) (next ∷ [])) in
    reported_before_is (e + 1) (earlier ++ (control ++ ((g ∷ gap) ++ next ∷ later)))
    ∙ ap (λ cs. heard_so_far (take (e + 1) cs)) all
    ∙ ap heard_so_far (take_at front later (e + 1) size)
    ∙ next_after earlier control g gap next e (omega arith) h.all none at refl
    ∙ ap₂ (λ (ts us : List EventAt). ts ++ (us ++ all_at e (other_words e next))) (sym (before_second earlier control g gap (next ∷ later) (omega arith) h.all none)) (places earlier control x own (g ∷ gap) (omega arith) i a b e refl)

between : (x : Period) (own reception : List Column) → IsBetween x → ArrivesPeriod x own reception → (control : List Column) → AreControl control → StandsAnywhere x own reception
between x own reception i a control h =
    let g = inner_gap control x own reception h.long i a in
    let some = g.some in
    let size = g.long in
    stands x own reception i a g.no_control (omega arith)

pub video_anywhere : VideoAnywhere
unfolding HasValues IsBetween
video_anywhere bytes sent received is h earlier control next later c at =
    let v = is_video_of bytes is in
    between (video bytes) sent received v (received_one (video bytes) sent received (v.small, tt) h) control c earlier control next later c at

pub island_anywhere : IslandAnywhere
unfolding HasValues IsBetween
island_anywhere x sent received is h earlier control next later c at =
    between (island x) sent received (is_island_of x is) (received_one (island x) sent received tt h) control c earlier control next later c at

-- A data island closes itself.

shuts : (x : DataIsland) (own reception : List Column) → IsBetween (island x) → ArrivesPeriod (island x) own reception → (b : ℕ) → at_close b reception ≡ []
unfolding IsBetween
shuts _ _ _ i (packets x g h c d pp qq guards are) b = grind (arith, island_shuts, opens_island, guards_close)

closes_anywhere : (x : DataIsland) (own reception : List Column) → IsBetween (island x) → ArrivesPeriod (island x) own reception → NoneControl reception → 1 ≤ length reception
    → (earlier control later : List Column) → AreControl control
    → reported_before (length earlier + length control + length reception) (heard_so_far (earlier ++ (control ++ (reception ++ later))))
    ≡ reported_before (length earlier + length control + 1) (heard_so_far (earlier ++ (control ++ (reception ++ later)))) ++ period_placed (length earlier + length control) control (island x) own reception
closes_anywhere x own [] i a none one earlier control later h = absurd (omega arith)
closes_anywhere x own (g ∷ gap) i a none one earlier control later h =
    let long = h.long in
    let b = length earlier + length control in
    let e = b + length (g ∷ gap) in
    let front = earlier ++ (control ++ (g ∷ gap)) in
    let all : earlier ++ (control ++ ((g ∷ gap) ++ later)) ≡ front ++ later =
    ap (λ xs. earlier ++ xs) (sym (append_assoc control (g ∷ gap) later)) ∙ sym (append_assoc earlier (control ++ (g ∷ gap)) later) in
    let size : length front ≡ e = omega (arith, length-append earlier (control ++ (g ∷ gap)), length-append control (g ∷ gap)) in
    let k = control_before earlier control in
    let row : in_gap b k (g ∷ gap) ≡ period_placed b control (island x) own (g ∷ gap) =
    sym (append-nil (in_gap b k (g ∷ gap))) ∙ ap (λ ts. in_gap b k (g ∷ gap) ++ all_at e ts) (sym (shuts x own (g ∷ gap) i a b)) ∙ places earlier control (island x) own (g ∷ gap) (omega arith) i a b e refl in
    reported_before_is e (earlier ++ (control ++ ((g ∷ gap) ++ later)))
    ∙ ap (λ cs. heard_so_far (take e cs)) all
    ∙ ap heard_so_far (take_at front later e size)
    ∙ gap_after earlier control g gap (omega arith) h.all none
    ∙ ap₂ (λ (ts us : List EventAt). ts ++ us) (sym (before_second earlier control g gap later (omega arith) h.all none)) row

pub island_closes_anywhere : IslandClosesAnywhere
unfolding HasValues IsBetween
island_closes_anywhere x sent received is h earlier control later c =
    let i = is_island_of x is in
    let a = received_one (island x) sent received tt h in
    let g = inner_gap control (island x) sent received c.long i a in
    let some = g.some in
    let size = g.long in
    closes_anywhere x sent received i a g.no_control (omega arith) earlier control later c
