use Rattle.std.proofs.Common.{arith}
use Rattle.tmds_word.proofs.Rows.{AreBytes}
use Rattle.tmds_word.proofs.Eights.{eight_bytes_are}
use Rattle.lane_track.proofs.ahead.eight_bytes.Goals as goal

pub returns : goal.returns
returns c =
    let are : AreBytes c.args.bytes.now = λ i. (c.type_inv.bytes i).fits in
    eight_bytes_are c.args.bytes.now c.args.at c.from_le_bytes.result are c.requires (omega (arith, c.from_le_bytes.ensures))
