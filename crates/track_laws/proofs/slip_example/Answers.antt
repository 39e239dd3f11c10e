use Rattle.track_laws.proofs.SlipExample.{example}
use Rattle.track_laws.proofs.slip_example.Goals as goal

pub returns : goal.returns
returns c = example
