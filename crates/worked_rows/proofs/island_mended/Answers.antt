use Rattle.worked_rows.proofs.IslandHeard.{island_mended}
use Rattle.worked_rows.proofs.island_mended.Goals as goal

pub returns : goal.returns
returns c = island_mended
