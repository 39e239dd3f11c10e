use Rattle.std.proofs.Common.{arith}
use Rattle.capture_file.proofs.Packing.{packed-part, bytes_whole, bytes_masked}
use Rattle.capture_file.proofs.writing.copy_packed.Goals as goal

pub returns-then-spare-ne0 : goal.returns-then-spare-ne0
returns-then-spare-ne0 c = grind (arith, bytes_masked, packed-part)

pub returns-else-spare-ne0 : goal.returns-else-spare-ne0
returns-else-spare-ne0 c = grind (arith, bytes_whole, packed-part)
