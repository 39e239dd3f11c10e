use Rattle.std.proofs.Common.{arith, ◌∙◌}
use Rattle.tmds_word.proofs.Rows.{no_more, byte_after}
use Rattle.tmds_word.proofs.Eights.{length-bytes_more}
use Rattle.tmds_word.proofs.row.BitRow.push_last.Goals as goal

pub loop-byte-init : goal.loop-byte-init
loop-byte-init c = no_more c.args.self.now c.args.bytes.now

pub put-requires-clause-room : goal.put-requires-clause-room
put-requires-clause-room c = omega (arith, c.requires, c.loop-byte-test.true, length-bytes_more c.args.self.now c.loop-byte.self c.args.bytes.now c.loop-byte.byte-index c.loop-byte.invariant (omega (arith, c.loop-byte-test.true)))

pub loop-byte-preserved : goal.loop-byte-preserved
loop-byte-preserved c = c.in_ok-put.ensures.ok ∙ byte_after c.args.self.now c.loop-byte.self c.args.bytes.now c.loop-byte.byte-index c.from.result c.loop-byte.invariant c.loop-byte-test.true c.from.ensures
