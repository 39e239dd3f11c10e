use Rattle.std.proofs.Common.{arith}
use Rattle.clap.proofs.WalkLemmas.{first_value-rows}
use Rattle.command_line.proofs.FoundRows.{option_value}
use Rattle.command_line.proofs.forms.option_text.Goals as goal

pub returns : goal.returns
returns c = grind (arith, first_value-rows, option_value)
