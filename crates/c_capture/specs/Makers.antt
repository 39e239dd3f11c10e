-- The makers of a capture: the number of each, and the program's command.
use Rattle.std.specs.Prelude.{◌≡◌, ℕ}
use Rattle.command_line.specs.declared.command.Command.{Command}
use Rattle.command_line.specs.declared.command.Command.TheVariants.{MakeLink, MakeDvi, MakeContent}
use Rattle.command_line.specs.declared.tap.TapWords.{TapWords}
use Rattle.c_capture.specs.declared.maker.Maker.{Maker}
use Rattle.c_capture.specs.declared.maker.Maker.TheVariants.{Link, Dvi, Content}

abbrev pub number_of : Maker → ℕ
number_of Link = 0
number_of Dvi = 1
number_of Content = 2

-- no maker has this number
abbrev pub IsNoMaker : ℕ → Type 0
IsNoMaker number = (maker : Maker) → number ≡ number_of maker → ⊥

-- with the options that the command line gives it
abbrev pub command_of : Maker → TapWords → Command
command_of Link words = MakeLink words
command_of Dvi words = MakeDvi words
command_of Content words = MakeContent words
