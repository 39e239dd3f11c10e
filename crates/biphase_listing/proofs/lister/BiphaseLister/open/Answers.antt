use Rattle.biphase_listing.specs.StreamText.{reported_samples}
use Rattle.biphase_listing.proofs.lister.BiphaseLister.open.Goals as goal

pub returns-clause-fresh : goal.returns-clause-fresh
unfolding reported_samples
returns-clause-fresh g c = c.new.ensures
