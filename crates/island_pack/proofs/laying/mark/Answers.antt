use Rattle.std.proofs.Common.{arith, ◌≡◌, Bool, true, false, not, ◌&&◌, ◌==◌, ap, ap₂, sym}
use Rattle.std.proofs.lemmas.Bool.{ne_eqb}
use Rattle.terc4.specs.Columns.{one_if}
use Rattle.island_pack.proofs.laying.mark.Goals as goal
use Rattle.island_pack.proofs.laying.mark.Goals.{else-first-via-then-first+else-i-eq0, else-first-via-else-first}

marked : (first other : Bool) → first ≡ true → other ≡ true → 0 ≡ one_if (not (first && other))
unfolding one_if
marked first other e f = sym (ap₂ (λ a b. one_if (not (a && b))) e f)

later : (first other : Bool) → first ≡ true → other ≡ false → 1 ≡ one_if (not (first && other))
unfolding one_if
later first other e f = sym (ap₂ (λ a b. one_if (not (a && b))) e f)

never : (first other : Bool) → first ≡ false → 1 ≡ one_if (not (first && other))
unfolding one_if
never first other e = sym (ap (λ a. one_if (not (a && other))) e)

pub returns-then-i-eq0-clause-value : goal.returns-then-i-eq0-clause-value
returns-then-i-eq0-clause-value c = marked _ _ c.if-first.true (ap (λ i. i == 0) c.if-i-eq0.true)

pub returns-else-first-clause-value : goal.returns-else-first-clause-value
returns-else-first-clause-value c = grind (arith, later, ne_eqb, else-first-via-else-first, never)
