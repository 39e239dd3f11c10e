use Rattle.std.proofs.Common.{arith, refl}
use Rattle.tmds_word.proofs.Fives.{nothing_packed, left_over, packed_more}
use Rattle.tmds_word.proofs.packing.pack.Goals as goal

pub loop-i-init : goal.loop-i-init
loop-i-init c = record { narrow = c.requires.narrow; size = refl; bits = nothing_packed c.args.held c.args.tail }

pub loop-i-preserved : goal.loop-i-preserved
loop-i-preserved c = grind (arith, left_over, packed_more)
