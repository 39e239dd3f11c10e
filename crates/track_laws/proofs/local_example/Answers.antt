use Rattle.track_laws.proofs.LocalExample.{local_example}
use Rattle.track_laws.proofs.local_example.Goals as goal

pub returns : goal.returns
returns c = local_example
