use Rattle.listing_laws.proofs.Reported.{packets_come_back}
use Rattle.listing_laws.proofs.laws.packets_come_back.Goals as goal

pub returns : goal.returns
returns c = packets_come_back
