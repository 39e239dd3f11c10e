use Rattle.terc4.proofs.Words.{island_guard_apart}
use Rattle.terc4.proofs.laws.island_guard_apart.Goals as goal

pub returns : goal.returns
returns c = island_guard_apart
