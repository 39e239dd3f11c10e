use Rattle.link_laws.proofs.exact.Arrivals.{whole_heard}
use Rattle.link_laws.proofs.link.whole_heard.Goals as goal

pub returns : goal.returns
returns c = whole_heard
