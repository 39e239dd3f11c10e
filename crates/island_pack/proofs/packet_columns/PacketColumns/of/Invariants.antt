use Rattle.std.proofs.Common.{◌≡◌, take, length}
use Rattle.island_pack.proofs.packet_columns.PacketColumns.of.Given as goal

abbrev pub invariant-loop-i : goal.invariant-loop-i
invariant-loop-i l = record { long : length l.kept ≡ 32; put : take l.i l.kept ≡ take l.i l.columns }
