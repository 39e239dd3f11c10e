use Rattle.std.proofs.Common.{◌∙◌, ap, sym, set}
use Rattle.tmds_word.specs.Bits.{bits_of}
use Rattle.capture_file.proofs.Setting.{one_set, zero_set}
use Rattle.capture_file.proofs.block_damage.with_bit.Goals as goal

pub returns-then-value : goal.returns-then-value
returns-then-value c = one_set c.args.at c.args.byte c.requires c.ranges.byte.fits ∙ ap (λ v. set (bits_of 8 c.args.byte) c.args.at v) (sym c.if-value.true)

pub returns-else-value : goal.returns-else-value
returns-else-value c = zero_set c.args.at c.args.byte c.requires c.ranges.byte.fits ∙ ap (λ v. set (bits_of 8 c.args.byte) c.args.at v) (sym c.if-value.false)
