use Rattle.std.proofs.Common.{arith}
use Rattle.island_pack.proofs.PacketRanges.{packet_is}
use Rattle.island_pack.proofs.ranges.is_packet_in_range.Goals as goal

pub returns-clause-packet : goal.returns-clause-packet
returns-clause-packet c = grind (arith, packet_is)
