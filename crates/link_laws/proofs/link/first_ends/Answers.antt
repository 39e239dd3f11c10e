use Rattle.link_laws.proofs.Ends.{first_ends}
use Rattle.link_laws.proofs.link.first_ends.Goals as goal

pub returns : goal.returns
returns c = first_ends
