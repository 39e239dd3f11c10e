use Rattle.std.proofs.Common.{arith, ◌∙◌}
use Rattle.tmds_word.proofs.Rows.{AreBytes}
use Rattle.lane_edges.proofs.Holding.{word_of_three}
use Rattle.lane_edges.proofs.window.word_at.Goals as goal

pub returns : goal.returns
returns c =
    let are : AreBytes c.args.bytes.now = λ i. (c.type_inv.bytes i).fits in
    c.of.ensures ∙ word_of_three c.args.bytes.now c.args.place c.from_le_bytes-bits.result are c.requires (omega (arith, c.from_le_bytes-bits.ensures))
