use Rattle.source_end.specs.RasterLaws.{GeneratedHasRaster}
use Rattle.source_end.proofs.GeneratedRaster.{generated_has_raster}
use Rattle.source_end.proofs.laws.generated_has_raster.Goals as goal

pub returns : goal.returns
unfolding GeneratedHasRaster
returns c = generated_has_raster
