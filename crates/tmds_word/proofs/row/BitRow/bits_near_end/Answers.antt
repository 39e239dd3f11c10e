use Rattle.std.proofs.Common.{arith}
use Rattle.tmds_word.proofs.Rows.{word_in_bytes}
use Rattle.tmds_word.proofs.row.BitRow.bits_near_end.Goals as goal

pub returns-clause-some : goal.returns-clause-some
returns-clause-some c =
    word_in_bytes c.args.self.now c.args.p c.byte.result c.byte-2.result c.byte-3.result c.from_le_bytes.result (omega (arith, c.from_le_bytes.ensures)) c.byte.ensures c.byte-2.ensures c.byte-3.ensures
