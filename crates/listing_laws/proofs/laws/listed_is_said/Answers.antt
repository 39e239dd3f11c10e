use Rattle.listing_laws.proofs.SaidPackets.{listed_is_said}
use Rattle.listing_laws.proofs.laws.listed_is_said.Goals as goal

pub returns : goal.returns
returns c = listed_is_said
