use Rattle.terc4.proofs.Counts.{island_counted}
use Rattle.terc4.proofs.columns.is_island_guard.Goals as goal

pub returns : goal.returns
returns c = island_counted _ _ c.island_guard_words.ensures.count
