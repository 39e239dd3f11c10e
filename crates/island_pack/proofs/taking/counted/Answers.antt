use Rattle.std.proofs.Common.{arith}
use Rattle.island_pack.proofs.Parts.{four_lists, eight_lists}
use Rattle.island_pack.proofs.taking.counted.Goals as goal

pub returns : goal.returns
returns c = grind (arith, four_lists, eight_lists)
