-- The walk of a link is the walk by its rule.
use Rattle.std.proofs.Common.{arith, ◌≡◌, ℕ, ◌+◌, List, [], ◌∷◌, refl}
use Rattle.tmds_word.specs.Column.{Column}
use Rattle.period_grammar.specs.Cut.{Stretch, stretch}
use Rattle.period_grammar.specs.Heard.{so_far, reach, reported_from, end_from, heard_so_far, heard}
use Rattle.period_grammar.specs.Gaps.{link_gaps, going_by, reported_by, end_by, so_far_by, heard_by}

going_one : (j : ℕ) (x : Stretch) → going_by link_gaps j x ≡ so_far j x
going_one j x = grind arith

reported_one : (j : ℕ) (xs : List Stretch) → reported_by link_gaps j xs ≡ reported_from j xs
reported_one j xs = grind (arith, going_one)

end_one : (j : ℕ) (xs : List Stretch) → end_by link_gaps j xs ≡ end_from j xs
end_one j [] = refl
end_one j (stretch control [] ∷ []) = refl
end_one j (stretch control (g ∷ gap) ∷ []) = refl
end_one j (x ∷ (y ∷ ys)) = end_one (j + reach x) (y ∷ ys)

pub link_is_one : (cs : List Column) → (so_far_by link_gaps cs ≡ heard_so_far cs) × (heard_by link_gaps cs ≡ heard cs)
unfolding so_far_by heard_by heard_so_far heard
link_is_one cs = grind (arith, reported_one, end_one)
