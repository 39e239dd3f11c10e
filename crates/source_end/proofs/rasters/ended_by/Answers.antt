use Rattle.std.proofs.Common.{◌+◌, ◌*◌, ◌<◌, ◌^◌, arith}
use Rattle.source_end.specs.Raster.{laid, lines_of, total}
use Rattle.source_end.specs.Gathering.{size}
use Rattle.source_end.proofs.RasterFrames.{parted_more, size_rest}
use Rattle.source_end.proofs.rasters.ended_by.Goals as goal

pub returns : goal.returns
returns c periods parts h few =
    let mode = c.args.mode.now in
    let fits : size h.rest + total mode.across * total mode.down < 2 ^ 32 = omega (arith, few, size_rest periods c.args.gathering.now parts h) in
    parted_more periods _ c.args.gathering.now c.frame-2.new.out c.take_items.new.self parts (laid mode (lines_of mode c.args.frame) c.args.frame.packets) h (c.in_ok-frame.ensures h.rest h.held fits) c.take_items.ensures.parted
