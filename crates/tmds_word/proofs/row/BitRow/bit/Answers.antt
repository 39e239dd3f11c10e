use Rattle.std.proofs.Common.{arith}
use Rattle.std.proofs.lemmas.Nat.Bits.{shr_and_one}
use Rattle.tmds_word.proofs.Numbers.{slice_get-number}
use Rattle.tmds_word.proofs.Rows.{bit_in_byte}
use Rattle.tmds_word.proofs.row.BitRow.bit.Goals as goal

pub returns : goal.returns
returns c = grind (arith, slice_get-number, bit_in_byte, shr_and_one)
