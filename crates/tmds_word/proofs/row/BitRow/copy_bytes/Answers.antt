use Rattle.std.proofs.Common.{arith}
use Rattle.tmds_word.proofs.Bytes.{bytes_of-places}
use Rattle.tmds_word.proofs.row.BitRow.copy_bytes.Goals as goal

pub returns : goal.returns
returns c = grind (arith, bytes_of-places)
