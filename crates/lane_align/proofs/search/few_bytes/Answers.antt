use Rattle.std.proofs.Common.{◌-◌, arith}
use Rattle.tmds_word.proofs.Rows.{AreBytes}
use Rattle.lane_align.proofs.Tail.{none_read, one_read, all_read}
use Rattle.lane_align.proofs.search.few_bytes.Goals as goal

pub loop-i-init : goal.loop-i-init
loop-i-init c = grind (arith, none_read)

pub loop-i-preserved : goal.loop-i-preserved
loop-i-preserved c = grind (arith, AreBytes, one_read)

pub returns : goal.returns
returns c = grind (arith, AreBytes, all_read)
