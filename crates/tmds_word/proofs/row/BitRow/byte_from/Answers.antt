use Rattle.std.proofs.Common.{◌∙◌}
use Rattle.tmds_word.specs.Bits.{number}
use Rattle.tmds_word.proofs.Bytes.{byte_of_two}
use Rattle.tmds_word.proofs.row.BitRow.byte_from.Goals as goal

pub returns : goal.returns
returns c = c.byte_across.ensures ∙ byte_of_two (number c.args.self.now) c.args.from c.args.i c.byte.result c.byte-2.result c.byte.ensures c.byte-2.ensures
