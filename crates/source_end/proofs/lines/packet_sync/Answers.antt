use Rattle.std.proofs.Common.{arith}
use Rattle.std.proofs.lemmas.List.{take_more_set, length-set}
use Rattle.source_end.specs.Raster.{blank, sync_at}
use Rattle.source_end.proofs.RasterRuns.{map_next, all_filled}
use Rattle.source_end.proofs.lines.packet_sync.Goals as goal

pub loop-i-preserved : goal.loop-i-preserved
loop-i-preserved c = grind (arith, length-set, take_more_set, map_next)

pub returns : goal.returns
returns c = all_filled (sync_at c.args.mode.now (blank c.args.vsync)) c.args.from c.loop-i.i 32 c.loop-i.values c.loop-i.invariant.long (omega arith) c.loop-i.invariant.filled
