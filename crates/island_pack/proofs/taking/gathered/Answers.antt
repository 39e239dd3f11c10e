use Rattle.std.proofs.Common.{◌≡◌, ℕ, ◌<◌, ◌∙◌, ap, arith, get_or, slice_index}
use Rattle.std.proofs.lemmas.Grind.{get_or_default_zero}
use Rattle.island_pack.specs.Registers.{code_of, spread_of}
use Rattle.island_pack.proofs.Rows.{sum_of, has_codes}
use Rattle.island_pack.proofs.taking.gathered.Goals as goal

pub returns : goal.returns
unfolding sum_of
returns c =
    let words = c.args.words.now in
    let word : (k d : ℕ) → k < 8 → spread_of (code_of (get_or words k d)) ≡ spread_of (code_of (slice_index words k)) =
    λ k d lt. ap (λ w. spread_of (code_of w)) (get_or_default_zero words k d (omega (arith, lt, c.told-words))) in
    has_codes c.to_le_bytes.result _ (λ k. code_of (slice_index words k)) c.to_le_bytes.ensures
    (omega (
      arith,
      c.spread.ensures.value ∙ word 6 _ (omega arith),
      c.spread-2.ensures.value ∙ word 7 _ (omega arith),
      c.spread-3.ensures.value ∙ word 5 _ (omega arith),
      c.spread-4.ensures.value ∙ word 4 _ (omega arith),
      c.spread-5.ensures.value ∙ word 3 _ (omega arith),
      c.spread-6.ensures.value ∙ word 2 _ (omega arith),
      c.spread-7.ensures.value ∙ word 1 _ (omega arith),
      c.spread-8.ensures.value ∙ word 0 _ (omega arith),
    ))
