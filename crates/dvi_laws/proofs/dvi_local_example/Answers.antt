use Rattle.dvi_laws.proofs.LocalExample.{local_example}
use Rattle.dvi_laws.proofs.dvi_local_example.Goals as goal

pub returns : goal.returns
returns c = local_example
