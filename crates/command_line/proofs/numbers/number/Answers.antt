use Rattle.std.proofs.Common.{arith}
use Rattle.std.proofs.lemmas.List.Folds.{list_all_more}
use Rattle.std.proofs.lemmas.Grind.{common_steps}
use Rattle.command_line.proofs.Digits.{both}
use Rattle.command_line.proofs.Digits.{digits_more, more_below}
use Rattle.command_line.proofs.numbers.number.Goals as goal

pub loop-digit-preserved : goal.loop-digit-preserved
loop-digit-preserved c = grind (arith, common_steps, list_all_more, both, digits_more, more_below)
