use Rattle.std.proofs.Common.{arith, ◌≡◌, ℕ, ◌+◌, ◌*◌, ◌≤◌, ap, length-append}
use Rattle.std.specs.Prelude.{ℤ, pos, neg_ℤ, ◌+ℤ◌, ◌-ℤ◌, ◌≤ℤ◌}
use Rattle.std.proofs.lemmas.Int.{ints}
use mir.Val.{to_z, of_z}
use mir.Syntax.{w32}
use Rattle.tmds_code.specs.Pasts.{Heard}
use Rattle.tmds_code.proofs.Lanes.{disparity_of-append}
use Rattle.tmds_code.proofs.judge.CodeJudge.hear_counted.Goals as goal

-- the sum, which fits
sum_is : (d b : ℤ) (n count ones : ℕ) → n + count ≤ 4097 → ones ≤ 10 * count → neg_ℤ (pos (10 * n + 8)) ≤ℤ d → d ≤ℤ pos (10 * n + 8) → b ≡ pos (2 * ones) -ℤ pos (10 * count)
    → to_z w32 (of_z w32 (to_z w32 (of_z w32 d) +ℤ to_z w32 (of_z w32 b))) ≡ d +ℤ b
sum_is d b n count ones few most low high e = omega (arith, ints)

sum_low : (s d b : ℤ) (n count ones : ℕ) → s ≡ d +ℤ b → ones ≤ 10 * count → neg_ℤ (pos (10 * n + 8)) ≤ℤ d → b ≡ pos (2 * ones) -ℤ pos (10 * count) → neg_ℤ (pos (10 * (n + count) + 8)) ≤ℤ s
sum_low s d b n count ones f most low e = omega (arith, ints)

sum_high : (s d b : ℤ) (n count ones : ℕ) → s ≡ d +ℤ b → ones ≤ 10 * count → d ≤ℤ pos (10 * n + 8) → b ≡ pos (2 * ones) -ℤ pos (10 * count) → s ≤ℤ pos (10 * (n + count) + 8)
sum_high s d b n count ones f most high e = omega (arith, ints)

pub invariant_of-self : goal.invariant_of-self
invariant_of-self c =
    let n = c.self.inside.count in
    let counted : n ≡ c.args.self.now.count = ap (λ (h : Heard). h.count) c.self.view_is in
    let few : n + c.args.count ≤ 4097 = omega (arith, c.requires.few, counted) in
    let sum = sum_is c.self.inside.disparity c.balance_by_ones.result n c.args.count c.args.ones few c.requires.ones c.self.invariant.1 c.self.invariant.2 c.balance_by_ones.ensures in (
      few,
      sum_low _ c.self.inside.disparity c.balance_by_ones.result n c.args.count c.args.ones sum c.requires.ones c.self.invariant.1 c.balance_by_ones.ensures,
      sum_high _ c.self.inside.disparity c.balance_by_ones.result n c.args.count c.args.ones sum c.requires.ones c.self.invariant.2 c.balance_by_ones.ensures,
    )

pub returns-clause-stands : goal.returns-clause-stands
returns-clause-stands c = λ words more past long balance.
    let n = c.self.inside.count in
    let counted : n ≡ c.args.self.now.count = ap (λ (h : Heard). h.count) c.self.view_is in
    let few : n + c.args.count ≤ 4097 = omega (arith, c.requires.few, counted) in
    let sum = sum_is c.self.inside.disparity c.balance_by_ones.result n c.args.count c.args.ones few c.requires.ones c.self.invariant.1 c.self.invariant.2 c.balance_by_ones.ensures in
    grind (arith, length-append, disparity_of-append)
