use Rattle.link_laws.proofs.Aligning.{first_until}
use Rattle.link_laws.proofs.link.first_until.Goals as goal

pub returns : goal.returns
returns c = first_until
