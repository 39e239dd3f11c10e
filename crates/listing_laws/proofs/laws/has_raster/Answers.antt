use Rattle.listing_laws.proofs.Rasters.{has_raster}
use Rattle.listing_laws.proofs.laws.has_raster.Goals as goal

pub returns : goal.returns
returns c = has_raster
