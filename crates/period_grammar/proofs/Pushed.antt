-- One column more, under every rule.
use Rattle.std.proofs.Common.{◌≡◌, ℕ, ◌+◌, Bool, true, false, List, [], ◌∷◌, ◌++◌, length, map, refl, ap, sym, ◌∙◌, append_assoc, arith, zero-add}
use Rattle.std.proofs.lemmas.List.{append-nil, map-append}
use Rattle.tmds_word.specs.Column.{Column}
use Rattle.terc4.specs.Columns.{is_control_column}
use Rattle.period_grammar.specs.Events.{all_at, event_of}
use Rattle.period_grammar.specs.Cut.{Stretch, stretch, stretches, runs}
use Rattle.period_grammar.specs.Heard.{in_runs, reach}
use Rattle.period_grammar.specs.After.{last, gap_of}
use Rattle.period_grammar.proofs.Push.{after, stretches_push, runs_push}
use Rattle.period_grammar.proofs.Step.{in_runs_push, runs_total, total, stretches_total, is_some, after_some}
use Rattle.period_grammar.specs.Gaps.{Gaps, going_by, closing_by, reported_by, end_by, so_far_by, heard_by}
use Rattle.period_grammar.specs.Gains.{Gain, GrowsBy, gains_by, ends_by}

reported_more : (g : Gaps) (j : ℕ) (x : Stretch) (xs : List Stretch) → is_some xs ≡ true → reported_by g j (x ∷ xs) ≡ going_by g j x ++ (closing_by g j x ++ reported_by g (j + reach x) xs)
reported_more g j x xs h = grind arith

-- a column after the last stretch
one_push : (g : Gaps) (gain : Gain) → GrowsBy g gain → (p : Bool) (j b n : ℕ) (c : Column) (x : Stretch) → n ≡ j + reach x → b + length (gap_of x) ≡ n
    → reported_by g j (after p c (x ∷ [])) ≡ going_by g j x ++ all_at n (gains_by g gain p b n c x)
unfolding runs
one_push g gain grows true j b n c (stretch control []) e f =
    ap (in_runs j) (runs_push control c) ∙ in_runs_push j n c (runs control) (omega (arith, runs_total control))
one_push g gain grows true j b n c (stretch control (x ∷ gap)) e f = grind (arith, append-nil, map-append)
one_push g gain grows false j b n c (stretch control []) e f = grind (arith, append-nil)
one_push g gain grows false j b n c (stretch control (x ∷ gap)) e f = grind (arith, append_assoc)

reported_push : (g : Gaps) (gain : Gain) → GrowsBy g gain → (p : Bool) (j b n : ℕ) (c : Column) (xs : List Stretch) → n ≡ j + total xs → b + length (gap_of (last xs)) ≡ n
    → reported_by g j (after p c xs) ≡ reported_by g j xs ++ all_at n (gains_by g gain p b n c (last xs))
unfolding runs
reported_push g gain grows true j b n c [] e f = grind (arith, append-nil)
reported_push g gain grows false j b n c [] e f = grows.one (j + 0) [] c
reported_push g gain grows p j b n c (x ∷ []) e f = one_push g gain grows p j b n c x (omega arith) f
reported_push g gain grows true j b n c (x ∷ (y ∷ ys)) e f =
    let same : n ≡ (j + reach x) + total (y ∷ ys) = omega arith in
    reported_more g j x (after true c (y ∷ ys)) (after_some true c (y ∷ ys))
    ∙ ap (λ ts. going_by g j x ++ (closing_by g j x ++ ts)) (reported_push g gain grows true (j + reach x) b n c (y ∷ ys) same f)
    ∙ simp append_assoc
reported_push g gain grows false j b n c (x ∷ (y ∷ ys)) e f =
    let same : n ≡ (j + reach x) + total (y ∷ ys) = omega arith in
    reported_more g j x (after false c (y ∷ ys)) (after_some false c (y ∷ ys))
    ∙ ap (λ ts. going_by g j x ++ (closing_by g j x ++ ts)) (reported_push g gain grows false (j + reach x) b n c (y ∷ ys) same f)
    ∙ simp append_assoc

pub push_law : (g : Gaps) (gain : Gain) → GrowsBy g gain → (cs : List Column) (c : Column) (b : ℕ) → b + length (gap_of (last (stretches cs))) ≡ length cs
    → so_far_by g (cs ++ c ∷ []) ≡ so_far_by g cs ++ all_at (length cs) (gains_by g gain (is_control_column c) b (length cs) c (last (stretches cs)))
unfolding so_far_by
push_law g gain grows cs c b f =
    ap (reported_by g 0) (stretches_push cs c)
    ∙ reported_push g gain grows (is_control_column c) 0 b (length cs) c (stretches cs) (sym (stretches_total cs) ∙ sym (zero-add (total (stretches cs)))) f

end_is : (g : Gaps) (j b : ℕ) (xs : List Stretch) → b + length (gap_of (last xs)) ≡ j + total xs → end_by g j xs ≡ ends_by g b (last xs)
unfolding runs
end_is g j b [] f = refl
end_is g j b (stretch control [] ∷ []) f = refl
end_is g j b (stretch control (x ∷ gap) ∷ []) f = let same : j + length control ≡ b = omega arith in ap (λ m. g.ending m control (x ∷ gap)) same
end_is g j b (x ∷ (y ∷ ys)) f = end_is g (j + reach x) b (y ∷ ys) (omega arith)

pub end_law : (g : Gaps) (cs : List Column) (b : ℕ) → b + length (gap_of (last (stretches cs))) ≡ length cs
    → heard_by g cs ≡ map event_of (so_far_by g cs) ++ ends_by g b (last (stretches cs))
unfolding heard_by
end_law g cs b f = ap (λ ts. map event_of (so_far_by g cs) ++ ts) (end_is g 0 b (stretches cs) (f ∙ sym (stretches_total cs) ∙ sym (zero-add (total (stretches cs)))))
