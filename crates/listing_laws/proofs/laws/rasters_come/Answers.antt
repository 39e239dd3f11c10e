use Rattle.listing_laws.proofs.Rasters.{rasters_come}
use Rattle.listing_laws.proofs.laws.rasters_come.Goals as goal

pub returns : goal.returns
returns c = rasters_come
