use Rattle.std.proofs.Common.{arith}
use Rattle.source_end.specs.Generator.{sound_packet}
use Rattle.source_end.proofs.generator.sound.Goals as goal

pub returns : goal.returns
unfolding sound_packet
returns c = grind arith
