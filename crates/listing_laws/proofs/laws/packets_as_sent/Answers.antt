use Rattle.listing_laws.proofs.PacketsAsSent.{packets_as_sent}
use Rattle.listing_laws.proofs.laws.packets_as_sent.Goals as goal

pub returns : goal.returns
returns c = packets_as_sent
