use Rattle.worked_rows.proofs.IslandHeard.{island_lost}
use Rattle.worked_rows.proofs.island_lost.Goals as goal

pub returns : goal.returns
returns c = island_lost
