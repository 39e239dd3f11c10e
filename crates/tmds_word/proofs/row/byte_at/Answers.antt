use Rattle.std.proofs.Common.{arith, []}
use Rattle.tmds_word.proofs.Rows.{AreBytes, byte_of_row, byte_within, byte_tail, byte_past}
use Rattle.tmds_word.proofs.row.byte_at.Goals as goal

pub returns-in-Some : goal.returns-in-Some
returns-in-Some c = grind (arith, AreBytes, byte_within, byte_of_row)

pub returns-in-None : goal.returns-in-None
returns-in-None c = grind (arith, AreBytes, byte_tail, byte_of_row)

pub returns-in-None-2 : goal.returns-in-None-2
returns-in-None-2 c = grind (arith, AreBytes, byte_past, byte_of_row)
