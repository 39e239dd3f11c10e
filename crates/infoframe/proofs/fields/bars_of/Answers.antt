use Rattle.std.proofs.Common.{[], arith}
use Rattle.infoframe.proofs.Numbers.{field_of_two}
use Rattle.infoframe.proofs.fields.bars_of.Goals as goal

pub returns : goal.returns
returns c = grind (arith, field_of_two)
