use Rattle.std.proofs.Common.{arith, ◌/◌}
use Rattle.c_room.proofs.Pieces.{same_bits}
use Rattle.c_room.proofs.lanes.piece_bytes.Goals as goal

pub returns-clause-bits : goal.returns-clause-bits
returns-clause-bits c = same_bits c.args.bytes.now c.args.at (c.args.at / 8) _ c.args.bits (omega arith) (omega arith) (omega arith)
