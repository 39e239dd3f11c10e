use Rattle.std.proofs.Common.{take}
use Rattle.source_end.specs.Gathering.{Has}
use Rattle.source_end.proofs.RasterWriting.{bodies}
use Rattle.source_end.proofs.rasters.items_of.Given as goal

abbrev pub invariant-loop-frame : goal.invariant-loop-frame
invariant-loop-frame l = Has l.out (bodies l.mode (take l.frame-index l.content))
