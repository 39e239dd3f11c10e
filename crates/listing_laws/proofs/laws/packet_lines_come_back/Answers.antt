use Rattle.listing_laws.proofs.PacketLines.{packet_lines_come_back}
use Rattle.listing_laws.proofs.laws.packet_lines_come_back.Goals as goal

pub returns : goal.returns
returns c = packet_lines_come_back
