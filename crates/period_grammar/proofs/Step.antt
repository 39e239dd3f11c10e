-- What is reported of a list of columns with one column more, by its last stretch.
use Rattle.std.proofs.Common.{◌≡◌, ℕ, suc, ◌+◌, Bool, true, false, ◌==◌, List, [], ◌∷◌, ◌++◌, length, map, refl, ap, sym, ◌∙◌, append_assoc, arith, zero-add}
use Rattle.std.proofs.lemmas.List.{append-nil, map-append}
use Rattle.tmds_word.specs.Column.{Column}
use Rattle.terc4.specs.Columns.{is_control_column}
use Rattle.period_grammar.specs.Column.{value_of}
use Rattle.period_grammar.specs.Events.{run, all_at, event_of}
use Rattle.period_grammar.specs.Cut.{Stretch, stretch, before, stretches, Run, columns, in_front, before_runs, runs}
use Rattle.period_grammar.specs.Heard.{other_words, words, ended, in_run, size, in_runs, if_not, in_gap, so_far, reach, closing, reported_from, end_from, at_end, heard_so_far, heard}
use Rattle.period_grammar.specs.After.{last, gap_of, change, gains, grown, ends}
use Rattle.period_grammar.proofs.Islands.{in_payload_push, in_payload_none}
use Rattle.period_grammar.proofs.Push.{after, stretches_push, trail, after_runs, runs_push}

-- how many columns
abbrev pub total_runs : List Run → ℕ
total_runs [] = 0
total_runs (r ∷ rs) = size r + total_runs rs

in_front_total : (p : Bool) (c : Column) (v : ℕ) (cs : List Column) (rs : List Run) → total_runs (in_front p c (columns v cs) rs) ≡ suc (length cs + total_runs rs)
in_front_total p c v cs rs = grind arith

before_runs_total : (c : Column) (rs : List Run) → total_runs (before_runs c rs) ≡ suc (total_runs rs)
before_runs_total c rs = grind (arith, in_front_total)

pub runs_total : (cs : List Column) → total_runs (runs cs) ≡ length cs
unfolding runs
runs_total [] = refl
runs_total (c ∷ cs) = before_runs_total c (runs cs) ∙ ap suc (runs_total cs)

abbrev pub total : List Stretch → ℕ
total [] = 0
total (x ∷ xs) = reach x + total xs

before_total : (p : Bool) (c : Column) (xs : List Stretch) → total (before p c xs) ≡ suc (total xs)
before_total p c xs = grind arith

pub stretches_total : (cs : List Column) → total (stretches cs) ≡ length cs
unfolding stretches
stretches_total [] = refl
stretches_total (c ∷ cs) = before_total (is_control_column c) c (stretches cs) ∙ ap suc (stretches_total cs)

-- The words of columns.

pub words_push : (j n : ℕ) (cs : List Column) (c : Column) → n ≡ j + length cs → words j (cs ++ c ∷ []) ≡ words j cs ++ all_at n (other_words n c)
words_push j n [] c e = grind (arith, append-nil)
words_push j n (d ∷ cs) c e =
    let same : n ≡ (j + 1) + length cs = omega arith in
    ap (λ ts. all_at j (other_words j d) ++ ts) (words_push (j + 1) n cs c same)
    ∙ sym (append_assoc (all_at j (other_words j d)) (words (j + 1) cs) (all_at n (other_words n c)))

-- The runs of control columns.

abbrev pub is_some : {A : Type 0} → List A → Bool
is_some [] = false
is_some (x ∷ xs) = true

in_runs_more : (j : ℕ) (r : Run) (rs : List Run) → is_some rs ≡ true → in_runs j (r ∷ rs) ≡ in_run j r ++ (ended j r ++ in_runs (j + size r) rs)
in_runs_more j r rs h = grind arith

trail_some : (p : Bool) (c : Column) (v : ℕ) (cs : List Column) → is_some (trail p c v cs) ≡ true
trail_some p c v cs = grind arith

pub after_runs_some : (c : Column) (rs : List Run) → is_some (after_runs c rs) ≡ true
after_runs_some c [] = refl
after_runs_some c (columns v cs ∷ []) = trail_some (v == value_of c) c v cs
after_runs_some c (r ∷ (s ∷ rs)) = refl

-- a column after the last run, where it has the run's value or not
last_push : (p : Bool) (j n v : ℕ) (cs : List Column) (c : Column) → n ≡ j + length cs
    → in_runs j (trail p c v cs) ≡ words j cs ++ all_at n (if_not p (run v (length cs)) ++ other_words n c)
last_push p j n v cs c h = grind (arith, words_push, append-nil)

pub in_runs_push : (j n : ℕ) (c : Column) (rs : List Run) → n ≡ j + total_runs rs
    → in_runs j (after_runs c rs) ≡ in_runs j rs ++ all_at n (change (value_of c) rs ++ other_words n c)
in_runs_push j n c [] e = grind (arith, append-nil)
in_runs_push j n c (columns v cs ∷ []) e = last_push (v == value_of c) j n v cs c (omega arith)
in_runs_push j n c (r ∷ (s ∷ rs)) e =
    let same : n ≡ (j + size r) + total_runs (s ∷ rs) = omega arith in
    let more = all_at n (change (value_of c) (s ∷ rs) ++ other_words n c) in
    in_runs_more j r (after_runs c (s ∷ rs)) (after_runs_some c (s ∷ rs))
    ∙ ap (λ ts. in_run j r ++ (ended j r ++ ts)) (in_runs_push (j + size r) n c (s ∷ rs) same)
    ∙ simp append_assoc

-- Periods.

reported_from_more : (j : ℕ) (x : Stretch) (xs : List Stretch) → is_some xs ≡ true → reported_from j (x ∷ xs) ≡ so_far j x ++ (closing j x ++ reported_from (j + reach x) xs)
reported_from_more j x xs h = grind arith

pub after_some : (p : Bool) (c : Column) (xs : List Stretch) → is_some (after p c xs) ≡ true
after_some p c xs = grind arith

-- a column after the last stretch
one_push : (p : Bool) (j b n : ℕ) (c : Column) (x : Stretch) → n ≡ j + reach x → b + length (gap_of x) ≡ n
    → reported_from j (after p c (x ∷ [])) ≡ so_far j x ++ all_at n (gains p b n c x)
unfolding runs in_gap
one_push true j b n c (stretch control []) e f =
    ap (in_runs j) (runs_push control c) ∙ in_runs_push j n c (runs control) (omega (arith, runs_total control))
one_push true j b n c (stretch control (g ∷ gap)) e f = grind (arith, append-nil, map-append)
one_push false j b n c (stretch control []) e f = grind (arith, append-nil)
one_push false j b n c (stretch control (g ∷ [])) e f = grind (arith, in_payload_none, append_assoc, append-nil)
one_push false j b n c (stretch control (g ∷ (h ∷ rest))) e f =
    let start : j + length control ≡ b = omega arith in
    grind (arith, in_payload_push, append_assoc)

reported_push : (p : Bool) (j b n : ℕ) (c : Column) (xs : List Stretch) → n ≡ j + total xs → b + length (gap_of (last xs)) ≡ n
    → reported_from j (after p c xs) ≡ reported_from j xs ++ all_at n (gains p b n c (last xs))
unfolding runs in_gap
reported_push true j b n c [] e f = grind (arith, append-nil)
reported_push false j b n c [] e f = refl
reported_push p j b n c (x ∷ []) e f = one_push p j b n c x (omega arith) f
reported_push true j b n c (x ∷ (y ∷ ys)) e f =
    let same : n ≡ (j + reach x) + total (y ∷ ys) = omega arith in
    reported_from_more j x (after true c (y ∷ ys)) (after_some true c (y ∷ ys))
    ∙ ap (λ ts. so_far j x ++ (closing j x ++ ts)) (reported_push true (j + reach x) b n c (y ∷ ys) same f)
    ∙ simp append_assoc
reported_push false j b n c (x ∷ (y ∷ ys)) e f =
    let same : n ≡ (j + reach x) + total (y ∷ ys) = omega arith in
    reported_from_more j x (after false c (y ∷ ys)) (after_some false c (y ∷ ys))
    ∙ ap (λ ts. so_far j x ++ (closing j x ++ ts)) (reported_push false (j + reach x) b n c (y ∷ ys) same f)
    ∙ simp append_assoc

-- what a column adds to what is reported of the columns before it
pub heard_push : (cs : List Column) (c : Column) (b : ℕ) → b + length (gap_of (last (stretches cs))) ≡ length cs
    → heard_so_far (cs ++ c ∷ []) ≡ heard_so_far cs ++ all_at (length cs) (gains (is_control_column c) b (length cs) c (last (stretches cs)))
unfolding heard_so_far
heard_push cs c b f =
    ap (reported_from 0) (stretches_push cs c)
    ∙ reported_push (is_control_column c) 0 b (length cs) c (stretches cs) (sym (stretches_total cs) ∙ sym (zero-add (total (stretches cs)))) f

-- the last stretch with one column more
last_more : (x : Stretch) (xs : List Stretch) → is_some xs ≡ true → last (x ∷ xs) ≡ last xs
last_more x xs h = grind arith

last_after : (p : Bool) (c : Column) (xs : List Stretch) → last (after p c xs) ≡ grown p c (last xs)
last_after true c [] = refl
last_after false c [] = refl
last_after true c (stretch control [] ∷ []) = refl
last_after true c (stretch control (g ∷ gap) ∷ []) = refl
last_after false c (stretch control gap ∷ []) = refl
last_after true c (x ∷ (y ∷ ys)) = last_more x (after true c (y ∷ ys)) (after_some true c (y ∷ ys)) ∙ last_after true c (y ∷ ys)
last_after false c (x ∷ (y ∷ ys)) = last_more x (after false c (y ∷ ys)) (after_some false c (y ∷ ys)) ∙ last_after false c (y ∷ ys)

pub last_push_stretch : (cs : List Column) (c : Column) → last (stretches (cs ++ c ∷ [])) ≡ grown (is_control_column c) c (last (stretches cs))
last_push_stretch cs c = ap last (stretches_push cs c) ∙ last_after (is_control_column c) c (stretches cs)

-- what is reported at the end
end_is : (j b : ℕ) (xs : List Stretch) → b + length (gap_of (last xs)) ≡ j + total xs → end_from j xs ≡ ends b (last xs)
unfolding runs
end_is j b [] f = refl
end_is j b (stretch control [] ∷ []) f = refl
end_is j b (stretch control (g ∷ gap) ∷ []) f = let same : j + length control ≡ b = omega arith in ap (λ m. at_end m (g ∷ gap)) same
end_is j b (x ∷ (y ∷ ys)) f = end_is (j + reach x) b (y ∷ ys) (omega arith)

pub heard_end : (cs : List Column) (b : ℕ) → b + length (gap_of (last (stretches cs))) ≡ length cs
    → heard cs ≡ map event_of (heard_so_far cs) ++ ends b (last (stretches cs))
unfolding heard
heard_end cs b f = ap (λ ts. map event_of (heard_so_far cs) ++ ts) (end_is 0 b (stretches cs) (f ∙ sym (stretches_total cs) ∙ sym (zero-add (total (stretches cs)))))
