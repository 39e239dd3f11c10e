use Rattle.std.proofs.Common.{◌∙◌}
use Rattle.tmds_word.proofs.Rows.{AreBytes}
use Rattle.track_sink.proofs.Moving.{word_is}
use Rattle.track_sink.proofs.held.word_across.Goals as goal

pub returns : goal.returns
returns c =
    let are : AreBytes c.args.bytes.now = λ i. (c.type_inv.bytes i).fits in
    word_is c.args.bytes.now c.args.at c.args.bit c.from-low.result c.from-high.result are c.requires.bit c.requires.room (c.from-low.ensures ∙ c.eight_bytes.ensures) c.from-high.ensures
