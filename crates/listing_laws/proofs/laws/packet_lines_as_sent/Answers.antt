use Rattle.listing_laws.proofs.PacketLines.{packet_lines_as_sent}
use Rattle.listing_laws.proofs.laws.packet_lines_as_sent.Goals as goal

pub returns : goal.returns
returns c = packet_lines_as_sent
