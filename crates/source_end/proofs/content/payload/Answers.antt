use Rattle.std.proofs.Common.{arith}
use Rattle.source_end.proofs.Contents.{payload_is}
use Rattle.source_end.proofs.content.payload.Goals as goal

pub returns : goal.returns
returns c = payload_is c.args.packet.now (omega arith) c.bytes.ensures (omega arith) c.bytes-2.ensures
