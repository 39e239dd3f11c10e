use Rattle.capture_commands.proofs.SampleRaster.{memory_wanting}
use Rattle.capture_commands.proofs.commands.sample.stream_of.Goals as goal

pub wanting-requires : goal.wanting-requires
wanting-requires c =
    memory_wanting c.args.frames c.mode.result c.in_ok-content.content c.raster.result c.in-Err.fault c.requires c.mode.ensures c.in_ok-content.ensures c.raster.ensures.fault c.in-Err.is
