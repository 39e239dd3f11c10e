use Rattle.listing_laws.proofs.Exact.{count_is_exact}
use Rattle.listing_laws.proofs.checks.count_is_exact.Goals as goal

pub returns : goal.returns
returns c = count_is_exact
