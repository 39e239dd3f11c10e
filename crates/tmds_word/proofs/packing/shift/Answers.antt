use Rattle.std.proofs.Common.{arith, refl}
use Rattle.tmds_word.proofs.Eights.{nothing_shifted, left_above, shifted_more}
use Rattle.tmds_word.proofs.packing.shift.Goals as goal

pub loop-i-init : goal.loop-i-init
loop-i-init c = record { narrow = c.requires.narrow; size = refl; bits = nothing_shifted c.args.held c.args.tail }

pub loop-i-preserved : goal.loop-i-preserved
loop-i-preserved c = grind (arith, left_above, shifted_more)
