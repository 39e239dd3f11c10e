use Rattle.link_laws.proofs.LocalExample.{local_example}
use Rattle.link_laws.proofs.link.has_local_example.Goals as goal

pub returns : goal.returns
returns c = local_example
