-- The readers of a capture: the number of each, and the program's command.
use Rattle.std.specs.Prelude.{◌≡◌, ℕ}
use Rattle.command_line.specs.declared.command.Command.{Command}
use Rattle.command_line.specs.declared.command.Command.TheVariants.{RecoverLink, RecoverDvi, RecoverTrack, RecoverRelock}
use Rattle.c_capture.specs.declared.reader.Reader.{Reader}
use Rattle.c_capture.specs.declared.reader.Reader.TheVariants.{Link, Dvi, Track, Relock}

abbrev pub number_of : Reader → ℕ
number_of Link = 0
number_of Dvi = 1
number_of Track = 2
number_of Relock = 3

-- no reader has this number
abbrev pub IsNoReader : ℕ → Type 0
IsNoReader number = (reader : Reader) → number ≡ number_of reader → ⊥

abbrev pub command_of : Reader → Command
command_of Link = RecoverLink
command_of Dvi = RecoverDvi
command_of Track = RecoverTrack
command_of Relock = RecoverRelock
