use Rattle.listing_laws.proofs.LinkLaw.{listing_reads_back}
use Rattle.listing_laws.proofs.laws.listing_reads_back.Goals as goal

pub returns : goal.returns
returns c = listing_reads_back
