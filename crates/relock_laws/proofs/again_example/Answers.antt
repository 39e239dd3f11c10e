use Rattle.relock_laws.proofs.AgainExample.{again_example}
use Rattle.relock_laws.proofs.again_example.Goals as goal

pub returns : goal.returns
returns c = again_example
