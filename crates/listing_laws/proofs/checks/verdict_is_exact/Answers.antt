use Rattle.listing_laws.proofs.Exact.{verdict_is_exact}
use Rattle.listing_laws.proofs.checks.verdict_is_exact.Goals as goal

pub returns : goal.returns
returns c = verdict_is_exact
