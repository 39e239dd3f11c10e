-- The law of the words of the command line.
use Rattle.std.specs.Prelude.{◌≡◌, List}
use Rattle.command_line.specs.Grammar.{Text}
use Rattle.command_line.specs.Commands.{IsCommand}
use Rattle.command_line.specs.declared.command.Command.{Command}

-- words name one command at most
abbrev pub OneCommand : Type 0
OneCommand = (words : List Text) (c d : Command) → IsCommand words c → IsCommand words d → c ≡ d
