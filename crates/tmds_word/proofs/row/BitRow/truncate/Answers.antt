use Rattle.std.proofs.Common.{arith, []}
use Rattle.tmds_word.proofs.Rows.{length-row, take_row, bits_of-mod, mask_is}
use Rattle.tmds_word.proofs.row.BitRow.truncate.Goals as goal

pub returns : goal.returns
returns c = grind (arith, length-row, mask_is, bits_of-mod, take_row)
