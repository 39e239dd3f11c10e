use Rattle.std.proofs.Common.{◌≡◌, ℕ, ◌+◌, ◌<◌, ◌∙◌, ap, subst, arith, count_ones}
use Rattle.std.specs.Prelude.{pos, ◌-ℤ◌, ◌*ℤ◌, ◌≤ℤ◌}
use Rattle.std.proofs.lemmas.Int.{ints}
use mir.Val.{to_z, of_z}
use mir.Syntax.{w32}
use Rattle.tmds_word.specs.Bits.{balance}
use Rattle.tmds_word.proofs.Words.{ones_of_word, ten_bits}
use Rattle.tmds_code.proofs.judge.balance_of.Goals as goal

-- twice the ones of ten bits, less ten
twice_less : (n o z : ℕ) → n ≡ o → o + z ≡ 10 → to_z w32 (of_z w32 (to_z w32 (of_z w32 (pos 2 *ℤ to_z w32 n)) -ℤ pos 10)) ≡ pos o -ℤ pos z
twice_less n o z e f = omega (arith, ints, e, f)

at_most_ten : (n o z : ℕ) → n ≡ o → o + z ≡ 10 → to_z w32 (of_z w32 (to_z w32 (of_z w32 (pos 2 *ℤ to_z w32 n)) -ℤ pos 10)) ≤ℤ pos 10
at_most_ten n o z e f = omega (arith, ints, e, f)

pub returns-clause-value : goal.returns-clause-value
unfolding balance
returns-clause-value c =
    let lt : c.args.word < 1024 = subst (λ n. n < 1024) c.value.ensures.value c.value.ensures.below in
    twice_less (count_ones c.value.result) _ _ (ap count_ones c.value.ensures.value ∙ ones_of_word c.args.word lt) (ten_bits c.args.word lt)

pub returns-clause-high : goal.returns-clause-high
returns-clause-high c =
    let lt : c.args.word < 1024 = subst (λ n. n < 1024) c.value.ensures.value c.value.ensures.below in
    at_most_ten (count_ones c.value.result) _ _ (ap count_ones c.value.ensures.value ∙ ones_of_word c.args.word lt) (ten_bits c.args.word lt)
