use Rattle.std.proofs.Common.{sym, subst, ◌≡◌, ◌<◌, ℕ, Some, None, IfSome, slice_index_or}
use Rattle.bch_block.specs.Division.{power, kept}
use Rattle.bch_block.specs.declared.tables.TheConstants.{POWERS}
use Rattle.bch_block.proofs.Powers.{power_in_table, table-power}
use Rattle.bch_block.proofs.power_of.Goals as goal

pub returns-clause-some : goal.returns-clause-some
returns-clause-some c =
    subst (λ (n : ℕ). IfSome (slice_index_or POWERS n None) (λ k. (k < 64) × (power k ≡ kept c.args.left))) (sym c.from.ensures) (power_in_table c.args.left c.ranges.left.fits)

pub returns-clause-only : goal.returns-clause-only
returns-clause-only c = λ k lk e.
    subst (λ (n : ℕ). slice_index_or POWERS n None ≡ Some k) (sym c.from.ensures) (table-power c.args.left k c.ranges.left.fits lk e)
