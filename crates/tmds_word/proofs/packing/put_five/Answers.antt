use Rattle.std.proofs.Common.{arith, ◌-◌}
use Rattle.std.proofs.lemmas.Slice.{take-put_mid}
use Rattle.tmds_word.proofs.Fives.{five_bytes}
use Rattle.tmds_word.proofs.Bytes.{length-bytes_of}
use Rattle.tmds_word.proofs.packing.put_five.Goals as goal

pub returns-clause-written : goal.returns-clause-written
returns-clause-written c = grind (arith, five_bytes, length-bytes_of, take-put_mid)
