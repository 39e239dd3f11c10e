use Rattle.link_laws.proofs.PacketsBeside.{packet_in_stream}
use Rattle.link_laws.proofs.link.packet_in_stream.Goals as goal

pub returns : goal.returns
returns c = packet_in_stream
