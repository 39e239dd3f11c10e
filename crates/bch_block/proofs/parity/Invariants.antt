use Rattle.std.proofs.Common.{take}
use Rattle.bch_block.proofs.Bytes.{Leaves}
use Rattle.bch_block.proofs.parity.Given as goal

abbrev pub invariant-loop-byte : goal.invariant-loop-byte
invariant-loop-byte l = Leaves (take l.byte-index l.bytes) l.left
