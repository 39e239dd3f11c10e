use Rattle.std.proofs.Common.{◌≡◌, ◌≤◌, ℕ, subst, sym, slice_index, arith}
use Rattle.island_pack.specs.Registers.{parted_of}
use Rattle.island_pack.specs.declared.pairs.TheConstants.{PARTED}
use Rattle.island_pack.proofs.NibblePairs.{parted_at, parted_below}
use Rattle.island_pack.proofs.pairs.parted.Goals as goal

pub returns-clause-value : goal.returns-clause-value
returns-clause-value c =
    subst (λ (n : ℕ). slice_index PARTED n ≡ parted_of c.args.byte) (sym c.from.ensures) (parted_at c.args.byte (omega (arith, c.ranges.byte.fits)))

pub returns-clause-below : goal.returns-clause-below
returns-clause-below c =
    subst (λ (n : ℕ). slice_index PARTED n ≤ 286331153) (sym c.from.ensures)
    (subst (λ (m : ℕ). m ≤ 286331153) (sym (parted_at c.args.byte (omega (arith, c.ranges.byte.fits)))) (parted_below c.args.byte))
