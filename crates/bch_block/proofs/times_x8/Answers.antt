use Rattle.std.proofs.Common.{sym, subst, ◌≡◌, ℕ, slice_index}
use Rattle.bch_block.specs.Division.{kept, times_power}
use Rattle.bch_block.specs.declared.tables.TheConstants.{TIMES_X8}
use Rattle.bch_block.proofs.Powers.{kept-times_x8}
use Rattle.bch_block.proofs.times_x8.Goals as goal

pub returns : goal.returns
returns c =
    subst (λ (n : ℕ). kept (slice_index TIMES_X8 n) ≡ times_power (kept c.args.left) 8) (sym c.from.ensures) (kept-times_x8 c.args.left c.ranges.left.fits)
