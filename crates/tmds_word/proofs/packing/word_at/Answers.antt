use Rattle.std.proofs.Common.{arith, ◌∙◌}
use Rattle.tmds_word.proofs.Rows.{AreBytes}
use Rattle.tmds_word.proofs.Eights.{word_of_pair}
use Rattle.tmds_word.proofs.packing.word_at.Goals as goal

pub returns : goal.returns
returns c =
    let are : AreBytes c.args.bytes.now = λ i. (c.type_inv.bytes i).fits in
    c.of.ensures ∙ word_of_pair c.args.bytes.now c.args.i c.from_le_bytes-pair.result are c.requires (omega (arith, c.from_le_bytes-pair.ensures))
