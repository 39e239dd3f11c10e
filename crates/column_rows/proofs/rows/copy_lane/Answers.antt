use Rattle.std.proofs.Common.{arith, get_or-set_other, get_or-set_same}
use Rattle.std.proofs.lemmas.List.{length-set, length-map, get_or-map}
use Rattle.std.proofs.lemmas.Grind.{same_number_lists, get_or_default_zero}
use Rattle.column_rows.proofs.rows.copy_lane.Goals as goal

pub loop-i-preserved : goal.loop-i-preserved
loop-i-preserved c = grind (arith, length-set, get_or-set_other, get_or-set_same, get_or_default_zero)

pub returns : goal.returns
returns c = grind (arith, same_number_lists, length-map, get_or-map)
