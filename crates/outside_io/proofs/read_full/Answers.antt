use Rattle.std.proofs.Common.{arith}
use Rattle.std.proofs.lemmas.Grind.{common_steps}
use Rattle.outside_io.proofs.Reading.{Consumes-more}
use Rattle.outside_io.proofs.read_full.Goals as goal

pub loop-arrived-preserved : goal.loop-arrived-preserved
loop-arrived-preserved g c = grind (arith, common_steps, Consumes-more)
