-- The commands that list what a capture says.
use Rattle.std.specs.Prelude.{ℕ, List}
use Rattle.link_sink.specs.Grammar.{Grammar}
use Rattle.track_sink.specs.Epochs.{EpochRule}
use Rattle.command_line.specs.declared.command.Command.{Command}
use Rattle.capture_commands.specs.Endings.{Devices, ListsRead, ListsPart, TracksRead, TracksPart, EndsReadFailed, EndsWriteFailed}
use Rattle.capture_commands.specs.Manners.{WritesOn}
use Rattle.capture_commands.specs.Listings.{Listing}
use Rattle.capture_commands.specs.TrackListings.{TrackListing}
use Rattle.capture_commands.specs.Outcome.{RunOutcome, ListsCapture, TracksCapture, Does}

-- a command that lists captures so
pub record IsLists (g : Grammar) (listing : Listing) (command : Command) : Type 0 where
  pub does : (bytes : List ℕ) (o : RunOutcome) → ListsCapture g listing bytes o → Does command bytes o
  pub on : WritesOn command
  pub read_failed : (before after : Devices) → ListsRead g listing before after → EndsReadFailed command before after
  pub write_failed : (before after : Devices) → ListsPart g listing before after → EndsWriteFailed command before after

-- a command that lists captures so, epoch after epoch, which end by a rule
pub record IsTracks (r : EpochRule) (listing : TrackListing) (command : Command) : Type 0 where
  pub does : (bytes : List ℕ) (o : RunOutcome) → TracksCapture r listing bytes o → Does command bytes o
  pub on : WritesOn command
  pub read_failed : (before after : Devices) → TracksRead r listing before after → EndsReadFailed command before after
  pub write_failed : (before after : Devices) → TracksPart r listing before after → EndsWriteFailed command before after
