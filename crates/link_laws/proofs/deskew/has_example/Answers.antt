use Rattle.link_laws.proofs.LaneExample.{example}
use Rattle.link_laws.proofs.deskew.has_example.Goals as goal

pub returns : goal.returns
returns c = example
