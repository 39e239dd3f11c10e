use Rattle.worked_rows.proofs.IslandRead.{island_read}
use Rattle.worked_rows.proofs.island_read.Goals as goal

pub returns : goal.returns
returns c = island_read
