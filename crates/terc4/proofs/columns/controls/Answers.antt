use Rattle.std.proofs.Common.{arith}
use Rattle.terc4.proofs.Choices.{from_bool-one_if}
use Rattle.terc4.proofs.columns.controls.Goals as goal

pub returns : goal.returns
returns c = grind (arith, from_bool-one_if)
