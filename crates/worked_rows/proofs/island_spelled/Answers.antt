use Rattle.worked_rows.proofs.IslandSpelled.{island_spelled}
use Rattle.worked_rows.proofs.island_spelled.Goals as goal

pub returns : goal.returns
returns c = island_spelled
