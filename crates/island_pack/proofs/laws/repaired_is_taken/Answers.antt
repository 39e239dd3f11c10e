use Rattle.island_pack.proofs.RepairedBlocks.{repaired_is_taken}
use Rattle.island_pack.proofs.laws.repaired_is_taken.Goals as goal

pub returns : goal.returns
returns c = repaired_is_taken
