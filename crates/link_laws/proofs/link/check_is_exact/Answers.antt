use Rattle.link_laws.proofs.exact.Law.{check_is_exact}
use Rattle.link_laws.proofs.link.check_is_exact.Goals as goal

pub returns : goal.returns
returns c = check_is_exact
