use Rattle.source_end.proofs.RasterLaw.{raster_conforms}
use Rattle.source_end.proofs.laws.raster_conforms.Goals as goal

pub returns : goal.returns
returns c = raster_conforms
