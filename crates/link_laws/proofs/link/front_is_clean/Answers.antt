use Rattle.link_laws.proofs.exact.Arrivals.{front_is_clean}
use Rattle.link_laws.proofs.link.front_is_clean.Goals as goal

pub returns : goal.returns
returns c = front_is_clean
