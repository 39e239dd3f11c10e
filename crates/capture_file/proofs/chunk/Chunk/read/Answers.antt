use Rattle.std.proofs.Common.{arith, sym}
use Rattle.capture_file.proofs.Rooms.{nothing_is, length-front}
use Rattle.capture_file.proofs.chunk.Chunk.read.Goals as goal

pub invariant_of-self : goal.invariant_of-self
invariant_of-self g c = record { few = omega arith; size = c.read_front.ensures.size; spared = sym nothing_is }

pub returns-clause-count : goal.returns-clause-count
returns-clause-count g c = length-front c.read_front.new.bytes c.args.count c.read_front.ensures.size c.requires.few
