use Rattle.std.proofs.Common.{arith}
use Rattle.std.proofs.lemmas.List.{take_all}
use Rattle.island_pack.proofs.packet_columns.PacketColumns.of.Goals as goal

pub returns : goal.returns
returns c = grind (arith, take_all)
