use Rattle.listing_laws.proofs.AsSent.{one_packet_as_sent}
use Rattle.listing_laws.proofs.laws.one_packet_as_sent.Goals as goal

pub returns : goal.returns
returns c = one_packet_as_sent
