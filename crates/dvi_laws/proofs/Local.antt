-- Locality under every rule: columns are cut at the first control column after one that is none, whatever stands before. And a
-- line without guard columns.
use Rattle.std.proofs.Common.{◌≡◌, ℕ, ◌+◌, ◌≤◌, true, List, [], ◌∷◌, ◌++◌, length, map, take, refl, ap, ap₂, sym, ◌∙◌, append_assoc, arith, length-append}
use Rattle.std.proofs.lemmas.List.{append-nil, take_at}
use Rattle.tmds_word.specs.Column.{Column, blues, greens, reds}
use Rattle.tmds_word.proofs.Below.{and-left}
use Rattle.terc4.specs.Columns.{is_control_column}
use Rattle.island_pack.specs.Periods.{Pixel, pixels_of}
use Rattle.period_grammar.specs.Cut.{runs, Stretch as Cut, stretch, stretches}
use Rattle.period_grammar.specs.Events.{EventAt, all_at}
use Rattle.period_grammar.specs.Heard.{other_words, reach}
use Rattle.period_grammar.specs.Gaps.{Gaps, going_by, closing_by, reported_by, so_far_by}
use Rattle.period_grammar.proofs.Step.{total, stretches_total}
use Rattle.link_laws.proofs.Between.{heads, begins_heads, some, some_cut, none_begins, none_left}
use Rattle.link_laws.proofs.Conformed.{is_video_of}
use Rattle.link_laws.proofs.CutPeriods.{both}
use Rattle.link_laws.proofs.Cutting.{AllControl, NoneControl}
use Rattle.link_laws.proofs.Local.{no_control_last, stretches_append, front_of, control_events, next_cut, heads_append, all_append, control_before, shifted, front_length}
use Rattle.link_laws.proofs.Rows.{and_both}
use Rattle.link_laws.proofs.SpelledWords.{AreWords, lane_words, small_blue, small_green, small_red}
use Rattle.link_laws.proofs.VideoReported.{PixelAt, ArePixels, no_pixels, pixel_count, pixels_no_control, length_received}
use Rattle.link_laws.proofs.VideoReported as seen
use Rattle.dvi_hearing.specs.DviHeard.{dvi_gaps, dvi_so_far}
use Rattle.dvi_laws.specs.DviAccount.{dvi_video_row}
use Rattle.dvi_laws.specs.DviLocal.{DviLineAnywhere}
use Rattle.dvi_laws.proofs.Coming.{AreNearly, no_columns, column, nearly}
use Rattle.dvi_laws.proofs.Lines.{closes, closing_is}

-- Under every rule.

-- stretches from column j on, each with what is reported at the first column after it
abbrev closed_by : Gaps → ℕ → List Cut → List EventAt
closed_by g j [] = []
closed_by g j (x ∷ xs) = going_by g j x ++ (closing_by g j x ++ closed_by g (j + reach x) xs)

reported_append : (g : Gaps) (j k : ℕ) (xs ys : List Cut) → some ys ≡ true → k ≡ j + total xs → reported_by g j (xs ++ ys) ≡ closed_by g j xs ++ reported_by g k ys
reported_append g j k [] ys s e = let same : j ≡ k = omega arith in ap (λ n. reported_by g n ys) same
reported_append g j k (x ∷ []) [] s e = grind arith
reported_append g j k (x ∷ []) (y ∷ ys) s e = grind (arith, append_assoc, append-nil)
reported_append g j k (x ∷ (z ∷ xs)) ys s e =
    let ih = reported_append g (j + reach x) k (z ∷ xs) ys s (omega arith) in
    ap (λ ts. going_by g j x ++ (closing_by g j x ++ ts)) ih
    ∙ ap (λ ts. going_by g j x ++ ts) (sym (append_assoc (closing_by g j x) (closed_by g (j + reach x) (z ∷ xs)) (reported_by g k ys)))
    ∙ sym (append_assoc (going_by g j x) (closing_by g j x ++ closed_by g (j + reach x) (z ∷ xs)) (reported_by g k ys))

-- what is reported of columns after others is what is reported of those alone, as if they began there
so_far_append : (g : Gaps) (cs ys : List Column) → no_control_last cs ≡ true → heads ys ≡ true → so_far_by g (cs ++ ys) ≡ closed_by g 0 (stretches cs) ++ reported_by g (length cs) (stretches ys)
unfolding so_far_by
so_far_append g cs ys s h = ap (reported_by g 0) (stretches_append cs ys s h) ∙ reported_append g 0 (length cs) (stretches cs) (stretches ys) (some_cut ys h) (size cs (stretches_total cs))
  where
    size : (cs : List Column) → total (stretches cs) ≡ length cs → length cs ≡ 0 + total (stretches cs)
    size cs e = omega arith

going : (g : Gaps) (j : ℕ) (control : List Column) (x : Column) (gap : List Column)
    → going_by g j (stretch control (x ∷ gap)) ≡ control_events j control ++ g.going (j + length control) control (x ∷ gap)
going g j control x gap = sym (append_assoc _ _ (g.going (j + length control) control (x ∷ gap)))

-- control columns and others, to their end
gap_reported : (g : Gaps) (j : ℕ) (control : List Column) (x : Column) (gap : List Column) → 1 ≤ length control → AllControl control → NoneControl (x ∷ gap)
    → reported_by g j (stretches (control ++ (x ∷ gap))) ≡ control_events j control ++ g.going (j + length control) control (x ∷ gap)
gap_reported g j control x gap one all none =
    ap (λ xs. reported_by g j (stretches (control ++ xs))) (sym (append-nil (x ∷ gap)))
    ∙ ap (reported_by g j) (both control (x ∷ gap) [] one (omega arith) all none none_begins ∙ none_left (stretch control (x ∷ gap)))
    ∙ going g j control x gap

one_reported : (g : Gaps) (j : ℕ) (c : Column) → reported_by g j (stretch (c ∷ []) [] ∷ []) ≡ all_at j (other_words j c)
unfolding runs
one_reported g j c = append-nil (all_at j (other_words j c))

-- to the control column after them
next_reported : (g : Gaps) (j e : ℕ) (control : List Column) (x : Column) (gap : List Column) (next : Column) → 1 ≤ length control → AllControl control → NoneControl (x ∷ gap) → is_control_column next ≡ true
    → e ≡ j + (length control + length (x ∷ gap))
    → reported_by g j (stretches (control ++ ((x ∷ gap) ++ next ∷ [])))
    ≡ (control_events j control ++ g.going (j + length control) control (x ∷ gap)) ++ (all_at e (g.closing (j + length control) control (x ∷ gap)) ++ all_at e (other_words e next))
next_reported g j e control x gap next one all none h same =
    ap (reported_by g j) (both control (x ∷ gap) (next ∷ []) one (omega arith) all none (begins_heads (next ∷ []) h) ∙ ap (λ xs. stretch control (x ∷ gap) ∷ xs) (next_cut j next h))
    ∙ ap₂ (λ (ts : List EventAt) (n : ℕ). ts ++ (all_at n (g.closing (j + length control) control (x ∷ gap)) ++ reported_by g n (stretch (next ∷ []) [] ∷ []))) (going g j control x gap) (sym same)
    ∙ ap (λ us. (control_events j control ++ g.going (j + length control) control (x ∷ gap)) ++ (all_at e (g.closing (j + length control) control (x ∷ gap)) ++ us)) (one_reported g e next)

-- what is reported before the second column after control columns, whatever was received before
abbrev earlier_events : Gaps → List Column → List Column → List EventAt
earlier_events g earlier control = closed_by g 0 (stretches (front_of earlier).front) ++ control_events (length (front_of earlier).front) (control_before earlier control)

gap_after : (g : Gaps) (earlier control : List Column) (x : Column) (gap : List Column) → 1 ≤ length control → AllControl control → NoneControl (x ∷ gap)
    → so_far_by g (earlier ++ (control ++ (x ∷ gap))) ≡ earlier_events g earlier control ++ g.going (length earlier + length control) (control_before earlier control) (x ∷ gap)
gap_after g earlier control x gap one all none =
    let f = front_of earlier in
    let k = control_before earlier control in
    let long = length-append f.control control in
    let every = all_append f.control control f.all all in
    ap (so_far_by g) (shifted earlier control (x ∷ gap))
    ∙ so_far_append g f.front (k ++ (x ∷ gap)) f.no_control (heads_append f.control control (x ∷ gap) one f.all all)
    ∙ ap (λ ts. closed_by g 0 (stretches f.front) ++ ts) (gap_reported g (length f.front) k x gap (omega arith) every none)
    ∙ sym (append_assoc (closed_by g 0 (stretches f.front)) (control_events (length f.front) k) (g.going (length f.front + length k) k (x ∷ gap)))
    ∙ ap (λ n. earlier_events g earlier control ++ g.going n k (x ∷ gap)) (front_length earlier control)

regroup : (a b g c w : List EventAt) → a ++ ((b ++ g) ++ (c ++ w)) ≡ (a ++ b) ++ ((g ++ c) ++ w)
regroup a b g c w = simp append_assoc

next_after : (g : Gaps) (earlier control : List Column) (x : Column) (gap : List Column) (next : Column) (e : ℕ) → 1 ≤ length control → AllControl control → NoneControl (x ∷ gap) → is_control_column next ≡ true
    → e ≡ length earlier + length control + length (x ∷ gap)
    → so_far_by g (earlier ++ (control ++ ((x ∷ gap) ++ next ∷ [])))
    ≡ earlier_events g earlier control
    ++ ((g.going (length earlier + length control) (control_before earlier control) (x ∷ gap) ++ all_at e (g.closing (length earlier + length control) (control_before earlier control) (x ∷ gap))) ++ all_at e (other_words e next))
next_after g earlier control x gap next e one all none h same =
    let f = front_of earlier in
    let k = control_before earlier control in
    let long = length-append f.control control in
    let size = front_length earlier control in
    let every = all_append f.control control f.all all in
    ap (so_far_by g) (shifted earlier control ((x ∷ gap) ++ next ∷ []))
    ∙ so_far_append g f.front (k ++ ((x ∷ gap) ++ next ∷ [])) f.no_control (heads_append f.control control ((x ∷ gap) ++ next ∷ []) one f.all all)
    ∙ ap (λ ts. closed_by g 0 (stretches f.front) ++ ts) (next_reported g (length f.front) e k x gap next (omega arith) every none h (omega arith))
    ∙ regroup (closed_by g 0 (stretches f.front)) (control_events (length f.front) k) (g.going (length f.front + length k) k (x ∷ gap)) (all_at e (g.closing (length f.front + length k) k (x ∷ gap))) (all_at e (other_words e next))
    ∙ ap (λ n. earlier_events g earlier control ++ ((g.going n k (x ∷ gap) ++ all_at e (g.closing n k (x ∷ gap))) ++ all_at e (other_words e next))) size

-- A line.

pub are_pixels : (ps : List Pixel) (pp rs : List Column) → AreWords (map (λ p. p.blue) ps) (blues pp) → AreWords (map (λ p. p.green) ps) (greens pp) → AreWords (map (λ p. p.red) ps) (reds pp)
    → AreNearly pp rs → ArePixels ps pp rs
unfolding AreWords
are_pixels [] [] _ b g r no_columns = no_pixels
are_pixels [] (c ∷ pp) rs b g r h = absurd b
are_pixels (p ∷ ps) [] rs b g r h = absurd b
are_pixels (p ∷ ps) (c ∷ pp) _ b g r (column _ q _ rs at h) =
    let here : PixelAt p c q = record { blue = b.0; green = g.0; red = r.0; one = at } in seen.more p c q ps pp rs here (are_pixels ps pp rs b.1 g.1 r.1 h)

so_far_is : (cs : List Column) → dvi_so_far cs ≡ so_far_by dvi_gaps cs
unfolding dvi_so_far
so_far_is cs = refl

first_none : (x : Column) (gap : List Column) → NoneControl (x ∷ gap) → NoneControl (x ∷ [])
first_none x gap h = and_both _ _ (and-left _ _ h) refl

line_stands : (ps : List Pixel) (ss rs : List Column) → ArePixels ps ss rs → 1 ≤ length ps → length ps ≤ 4096
    → (earlier control : List Column) (next : Column) (later : List Column) → 12 ≤ length control → AllControl control → is_control_column next ≡ true
    → (b e : ℕ) → b ≡ length earlier + length control → e ≡ b + length rs
    → dvi_so_far (take (e + 1) (earlier ++ (control ++ (rs ++ next ∷ later))))
    ≡ dvi_so_far (take (b + 1) (earlier ++ (control ++ (rs ++ next ∷ later)))) ++ (all_at e (dvi_video_row b ps ss rs) ++ all_at e (other_words e next))
line_stands ps ss [] are some few earlier control next later long all h b e at_b at_e = absurd (let n = length_received ps ss [] are in omega arith)
line_stands ps ss (x ∷ gap) are some few earlier control next later long all h b e at_b at_e =
    let rs = x ∷ gap in
    let none = pixels_no_control ps ss rs are in
    let k = control_before earlier control in
    let l = length-append (front_of earlier).control control in
    let cs = earlier ++ (control ++ (rs ++ next ∷ later)) in
    let whole = earlier ++ (control ++ (rs ++ next ∷ [])) in
    let first = earlier ++ (control ++ x ∷ []) in
    let is_whole : cs ≡ whole ++ later =
    ap (λ xs. earlier ++ (control ++ xs)) (sym (append_assoc rs (next ∷ []) later))
    ∙ ap (λ xs. earlier ++ xs) (sym (append_assoc control (rs ++ next ∷ []) later))
    ∙ sym (append_assoc earlier (control ++ (rs ++ next ∷ [])) later) in
    let is_first : cs ≡ first ++ (gap ++ next ∷ later) =
    ap (λ xs. earlier ++ xs) (sym (append_assoc control (x ∷ []) (gap ++ next ∷ later))) ∙ sym (append_assoc earlier (control ++ x ∷ []) (gap ++ next ∷ later)) in
    let size_whole : length whole ≡ e + 1 = omega (arith, length-append earlier (control ++ (rs ++ next ∷ [])), length-append control (rs ++ next ∷ []), length-append rs (next ∷ [])) in
    let size_first : length first ≡ b + 1 = omega (arith, length-append earlier (control ++ x ∷ []), length-append control (x ∷ [])) in
    let row : dvi_gaps.closing (length earlier + length control) k rs ≡ dvi_video_row b ps ss rs =
    closing_is (length earlier + length control) k rs (omega arith) ∙ closes (length earlier + length control) (length k) ps ss rs (omega arith) few are ∙ ap (λ n. dvi_video_row n ps ss rs) (sym at_b) in
    ap (λ ds. dvi_so_far (take (e + 1) ds)) is_whole
    ∙ ap dvi_so_far (take_at whole later (e + 1) size_whole)
    ∙ so_far_is whole
    ∙ next_after dvi_gaps earlier control x gap next e (omega arith) all none h (omega arith)
    ∙ ap (λ ts. earlier_events dvi_gaps earlier control ++ (all_at e ts ++ all_at e (other_words e next))) row
    ∙ ap (λ ts. ts ++ (all_at e (dvi_video_row b ps ss rs) ++ all_at e (other_words e next)))
    (sym
    (ap (λ ds. dvi_so_far (take (b + 1) ds)) is_first
    ∙ ap dvi_so_far (take_at first (gap ++ next ∷ later) (b + 1) size_first)
    ∙ so_far_is first
    ∙ gap_after dvi_gaps earlier control x [] (omega arith) all (first_none x gap none)
    ∙ append-nil (earlier_events dvi_gaps earlier control)))

pub dvi_line_anywhere : DviLineAnywhere
dvi_line_anywhere bytes sent received is h earlier before next later c at =
    let line = is_video_of bytes is in
    let count = pixel_count bytes in
    let some = line.some in
    let few = line.few in
    let ps = pixels_of bytes in
    line_stands ps sent received
    (are_pixels ps sent received (lane_words _ _ (small_blue bytes line.small) h.spelled.blue) (lane_words _ _ (small_green bytes line.small) h.spelled.green) (lane_words _ _ (small_red bytes line.small) h.spelled.red)
    (nearly sent received h.same_length h.one_a_column))
    (omega arith) (omega arith) earlier before next later c.long c.all at _ _ refl refl
