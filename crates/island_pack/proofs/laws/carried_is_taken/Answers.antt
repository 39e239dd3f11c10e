use Rattle.island_pack.proofs.Law.{carried_is_taken}
use Rattle.island_pack.proofs.laws.carried_is_taken.Goals as goal

pub returns : goal.returns
returns c = carried_is_taken
