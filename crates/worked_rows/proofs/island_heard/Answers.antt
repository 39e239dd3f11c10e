use Rattle.worked_rows.proofs.IslandHeard.{island_heard}
use Rattle.worked_rows.proofs.island_heard.Goals as goal

pub returns : goal.returns
returns c = island_heard
