use Rattle.island_pack.proofs.Spelled.{conforming_is_spelled}
use Rattle.island_pack.proofs.laws.conforming_is_spelled.Goals as goal

pub returns : goal.returns
returns c = conforming_is_spelled
