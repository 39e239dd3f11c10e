-- The listings that the program can write of what is reported of lanes that may lose bits.
use Rattle.std.specs.Prelude.{ℕ, List, []}
use Rattle.track_sink.specs.TrackEvents.{TrackEvent}
use Rattle.capture_commands.specs.TrackText.{track_faults, track_lines, track_text}
use Rattle.capture_commands.specs.ContentTrackText.{content_track_faults, content_track_lines, content_track_text}

-- how it is listed: the lines of what is reported so far, the whole text of all that is reported, and how many of the lines are
-- of faults, slips and alignments that were let go
pub record TrackListing : Type 0 where
  pub lines : List TrackEvent → List ℕ
  pub text : List TrackEvent → List ℕ
  pub faults : List TrackEvent → ℕ

abbrev pub link_track_listing : TrackListing
link_track_listing = record { lines = track_lines; text = track_text; faults = track_faults }

abbrev pub content_track_listing : TrackListing
content_track_listing = record { lines = content_track_lines []; text = content_track_text; faults = content_track_faults [] }
