use Rattle.std.proofs.Common.{arith}
use Rattle.std.proofs.lemmas.Slice.{take-put_mid}
use Rattle.tmds_word.proofs.Lists.{bytes_bits-append}
use Rattle.tmds_word.proofs.Fives.{five_bytes}
use Rattle.tmds_word.proofs.Bytes.{length-bytes_of, bytes_of-bits}
use Rattle.island_pack.proofs.pairs.put_pairs.Goals as goal

pub returns-clause-bits : goal.returns-clause-bits
returns-clause-bits c = grind (arith, five_bytes, length-bytes_of, take-put_mid, bytes_bits-append, bytes_of-bits)
