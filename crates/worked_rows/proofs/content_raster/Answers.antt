use Rattle.worked_rows.proofs.Content.{content_raster}
use Rattle.worked_rows.proofs.content_raster.Goals as goal

pub returns : goal.returns
returns c = content_raster
