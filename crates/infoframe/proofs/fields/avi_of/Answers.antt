use Rattle.std.proofs.Common.{arith}
use Rattle.infoframe.specs.Fields.{avi_of, avi_table}
use Rattle.infoframe.proofs.Numbers.{field_in_byte}
use Rattle.infoframe.proofs.fields.avi_of.Goals as goal

pub returns : goal.returns
unfolding avi_of avi_table
returns c = grind (arith, field_in_byte)
