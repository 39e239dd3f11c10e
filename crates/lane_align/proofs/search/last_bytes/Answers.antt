use Rattle.std.proofs.Common.{arith}
use Rattle.tmds_word.proofs.Rows.{AreBytes}
use Rattle.lane_align.proofs.Tail.{last_read}
use Rattle.lane_align.proofs.search.last_bytes.Goals as goal

pub returns-else-at-len : goal.returns-else-at-len
returns-else-at-len c =
    let are : AreBytes c.args.bytes.now = λ i. (c.type_inv.bytes i).fits in
    last_read c.args.bytes.now c.args.at c.eight_bytes.result are (omega arith) (omega (arith, c.requires.place)) c.requires.few c.eight_bytes.ensures
