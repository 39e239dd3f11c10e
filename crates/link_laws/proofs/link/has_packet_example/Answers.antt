use Rattle.link_laws.proofs.PacketExample.{packet_example}
use Rattle.link_laws.proofs.link.has_packet_example.Goals as goal

pub returns : goal.returns
returns c = packet_example
