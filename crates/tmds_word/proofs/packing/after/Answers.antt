use Rattle.std.proofs.Common.{arith}
use Rattle.tmds_word.proofs.Rows.{joined_below}
use Rattle.tmds_word.proofs.Fives.{after_is}
use Rattle.tmds_word.proofs.packing.after.Goals as goal

pub returns : goal.returns
returns c = grind (arith, after_is, joined_below)
