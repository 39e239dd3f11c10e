use Rattle.std.proofs.Common.{◌≡◌, take, map, length}
use Rattle.source_end.specs.Raster.{blank, sync_at, up_from}
use Rattle.source_end.proofs.lines.packet_sync.Given as goal

abbrev pub invariant-loop-i : goal.invariant-loop-i
invariant-loop-i l = record {
  long : length l.values ≡ 32;
  filled : take l.i l.values ≡ map (sync_at l.mode (blank l.vsync)) (up_from l.from l.i);
}
