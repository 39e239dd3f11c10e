-- Words and bytes have one outcome.
use Rattle.std.specs.Prelude.{◌≡◌, ℕ, List}
use Rattle.capture_file.specs.Captures.{IsCapture}
use Rattle.command_line.specs.Commands.{IsCommand}
use Rattle.command_line.specs.declared.command.Command.{Command}
use Rattle.command_line.specs.declared.command.Command.TheVariants.{RecoverTrack, RecoverRelock, RecoverContentRelock}
use Rattle.capture_commands.specs.Outcome.{RunOutcome, IsOutcome}

-- but for bytes that are no capture, of which `recover track`, `recover relock` and `recover content relock` may have listed more or
-- less of what their whole blocks decide
abbrev pub Decides : Command → List ℕ → Type 0
Decides RecoverTrack bytes = IsCapture bytes
Decides RecoverRelock bytes = IsCapture bytes
Decides RecoverContentRelock bytes = IsCapture bytes
Decides _ bytes = Unit {0}

abbrev pub OneOutcome : Type 0
OneOutcome =
    (words : List (List ℕ)) (text : List ℕ) (o p : RunOutcome) → ((command : Command) → IsCommand words command → Decides command text)
    → IsOutcome words text o → IsOutcome words text p → o ≡ p
