use Rattle.std.proofs.Common.{arith, refl, sym}
use Rattle.capture_file.proofs.Rooms.{nothing_is}
use Rattle.capture_file.proofs.chunk.Chunk.new.Goals as goal

pub invariant_of-result : goal.invariant_of-result
invariant_of-result c = record { few = omega arith; size = refl; spared = sym nothing_is }
