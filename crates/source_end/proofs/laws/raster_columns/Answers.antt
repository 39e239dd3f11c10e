use Rattle.source_end.proofs.RasterLaw.{raster_columns}
use Rattle.source_end.proofs.laws.raster_columns.Goals as goal

pub returns : goal.returns
returns c = raster_columns
