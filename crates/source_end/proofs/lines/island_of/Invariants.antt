use Rattle.std.proofs.Common.{◌≡◌, ◌+◌, ◌*◌, take}
use Rattle.source_end.specs.Raster.{blank, packets_at}
use Rattle.source_end.proofs.lines.island_of.Given as goal

abbrev pub invariant-loop-packet : goal.invariant-loop-packet
invariant-loop-packet l = record {
  x_is : l.x ≡ 14 + 32 * l.packet-index;
  placed : l.placed.items ≡ packets_at l.mode (blank l.vsync) 14 (take l.packet-index l.packets);
}
