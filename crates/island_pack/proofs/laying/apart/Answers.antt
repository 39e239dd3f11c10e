use Rattle.std.proofs.Common.{◌≡◌, ◌≤◌, ℕ, subst, sym, slice_index, arith}
use Rattle.island_pack.specs.Registers.{apart_of}
use Rattle.island_pack.specs.declared.laying.TheConstants.{APART}
use Rattle.island_pack.proofs.Apart.{apart_at, apart_below}
use Rattle.island_pack.proofs.laying.apart.Goals as goal

pub returns-clause-value : goal.returns-clause-value
returns-clause-value c =
    subst (λ (n : ℕ). slice_index APART n ≡ apart_of c.args.byte) (sym c.from.ensures) (apart_at c.args.byte (omega (arith, c.ranges.byte.fits)))

pub returns-clause-below : goal.returns-clause-below
returns-clause-below c =
    subst (λ (n : ℕ). slice_index APART n ≤ 72340172838076673) (sym c.from.ensures)
    (subst (λ (m : ℕ). m ≤ 72340172838076673) (sym (apart_at c.args.byte (omega (arith, c.ranges.byte.fits)))) (apart_below c.args.byte))
