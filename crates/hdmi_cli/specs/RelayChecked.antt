-- What `check` says of what `relay` wrote.
use Rattle.std.specs.Prelude.{◌≡◌, ◌⊎◌, ℕ, List, ◌++◌, codes}
use Rattle.period_grammar.specs.Events.{Event}
use Rattle.command_line.specs.declared.command.Command.TheVariants.{Check}
use Rattle.capture_commands.specs.Outcome.{RunOutcome, Does}
use Rattle.capture_commands.specs.Relays.{IsRelayed}

-- it ends with `clean` and status 0, or with status 7: one control period alone is aligned nowhere
abbrev pub IsClean : RunOutcome → Type 0
IsClean o = ((o.status ≡ 0) × ((lines : List ℕ) × (o.output ≡ lines ++ codes "clean\n"))) ⊎ (o.status ≡ 7)

abbrev pub RelayIsClean : Type 0
RelayIsClean = (events : List Event) (text : List ℕ) → IsRelayed events text → (o : RunOutcome) → Does Check text o → IsClean o

-- what was relayed of an island and a line is found clean
abbrev pub HasCheckedRelay : Type 0
HasCheckedRelay = (events : List Event) × (text : List ℕ) × (o : RunOutcome) × IsRelayed events text × Does Check text o × (o.status ≡ 0)
