use Rattle.std.proofs.Common.{arith}
use Rattle.tmds_word.proofs.Rows.{joined_below}
use Rattle.tmds_word.proofs.Eights.{above_is}
use Rattle.tmds_word.proofs.packing.above.Goals as goal

pub returns : goal.returns
returns c = grind (arith, above_is, joined_below)
