use Rattle.command_line.proofs.OneCommand.{command_once}
use Rattle.command_line.proofs.laws.one_command.Goals as goal

pub returns : goal.returns
returns c = command_once
