use Rattle.link_laws.proofs.Noticed.{noticed}
use Rattle.link_laws.proofs.link.noticed.Goals as goal

pub returns : goal.returns
returns c = noticed
