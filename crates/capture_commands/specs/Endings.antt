-- How a run ends: of each command and each ending what was read and written, and what is promised of the output; and each ending's status and note.
use Rattle.std.specs.Prelude.{◌≡◌, ◌⊎◌, ◌<◌, ◌≤◌, ℕ, zero, suc, Bool, true, false, List, [], ◌∷◌, length, map, take, Option, Some, Result, Ok, Err, Contains}
use Rattle.std.specs.Io.KnownBytes.{Appends, Consumes, IsAtEnd, Keeps}
use Rattle.outside_io.specs.Causes.{Rose}
use Rattle.capture_file.specs.Captures.{BeginsCapture, IsCaptureOf}
use Rattle.capture_file.specs.BlockDamage.{ReadFailed as DamageReadFailed, WriteFailed as DamageWriteFailed}
use Rattle.capture_file.specs.Slips.{StopsReading}
use Rattle.capture_file.specs.declared.slipping.SlipError.{SlipError}
use Rattle.capture_file.specs.declared.slipping.SlipError.TheVariants as slips
use Rattle.biphase_listing.specs.Reading.{IsUnread as FramesReadFailed, IsUnwritten as FramesWriteFailed}
use Rattle.biphase_listing.specs.declared.fault.BiphaseError.{BiphaseError}
use Rattle.biphase_listing.specs.declared.fault.BiphaseError.TheVariants as biphases
use Rattle.capture_file.specs.declared.damaging.DamageError.{DamageError}
use Rattle.capture_file.specs.declared.damaging.DamageError.TheVariants as damages
use Rattle.listing_reader.specs.declared.fault.ListError.{ListError}
use Rattle.listing_reader.specs.declared.fault.ListError.TheVariants as lists
use Rattle.period_grammar.specs.Exact.{faultless}
use Rattle.relay.specs.Relayed.{relayed}
use Rattle.relay.specs.declared.relaying.RelayFault.{RelayFault}
use Rattle.relay.specs.declared.relaying.RelayFault.TheVariants as relay_faults
use Rattle.relock_sink.specs.Refuting.{refuting_rule}
use Rattle.track_sink.specs.Epochs.{EpochRule, stray_rule, IsTrackBy}
use Rattle.track_sink.specs.TrackEvents.{TrackEvent}
use Rattle.track_sink.specs.Tracks.{HasTrackedBy}
use Rattle.capture_commands.specs.TrackListings.{TrackListing, link_track_listing, content_track_listing}
use Rattle.capture_commands.specs.Relays.{whole_tap}
use Rattle.source_end.specs.declared.refusal.RasterFault.{RasterFault}
use Rattle.source_end.specs.declared.refusal.RasterFault.TheVariants as raster_faults
use Rattle.tmds_word.specs.Column.{Column}
use Rattle.island_pack.specs.Periods.{Period}
use Rattle.island_pack.specs.Spelling.{Spells}
use Rattle.capture_file.specs.Taps.{tapped_capture}
use Rattle.capture_file.specs.declared.writing.Tap.{Tap}
use Rattle.period_grammar.specs.Events.{Event}
use Rattle.dvi_hearing.specs.DviGrammar.{dvi_grammar}
use Rattle.link_sink.specs.Alignment.{IsAlignedBy}
use Rattle.link_sink.specs.Grammar.{Grammar, link_grammar}
use Rattle.link_sink.specs.Sinks.{Fed, IsReportedBy}
use Rattle.capture_reading.specs.Blocks.{AreNext, AreRead}
use Rattle.capture_commands.specs.Commands.{hit_asked}
use Rattle.capture_commands.specs.Manners.{ReadsInput, WritesLast, WritesOn}
use Rattle.capture_commands.specs.Listings.{Listing as ListingOf, link_listing, check_listing, content_listing, biphase_listing}
use Rattle.capture_commands.specs.Notes.{listing_note, raster_note, capture_note, place_note, frames_note, long_note, usage_note, read_note, write_note, memory_note, alignment_note}
use Rattle.capture_commands.specs.Outcome.{RunOutcome, Does, NamesNone}
use Rattle.capture_commands.specs.Samples.{IsSampleCut, SampleEnds}
use Rattle.capture_commands.specs.Taken.{StopsOf}
use Rattle.command_line.specs.Commands.{IsCommand}
use Rattle.command_line.specs.declared.command.Command.{Command}
use Rattle.command_line.specs.declared.command.Command.TheVariants.{MakeLink, MakeContent, MakeDvi, RecoverLink, RecoverContent, RecoverTrack, RecoverRelock, RecoverContentRelock, RecoverBiphase, RecoverDvi, Check, Damage, Slip, ReadBiphase, Relay, Sample}
use Rattle.capture_reading.specs.declared.reading.ReadCaptureError.{ReadCaptureError}
use Rattle.capture_reading.specs.declared.reading.ReadCaptureError.TheVariants as heards
use Rattle.capture_commands.specs.declared.ending.Ending.{Ending}
use Rattle.capture_commands.specs.declared.ending.Ending.TheVariants.{Done, Faulty, Usage, Listing, Raster, Capture, Place, Frames, TooLong, ReadFailed, WriteFailed, NoMemory, Unaligned}

abbrev pub status_of : Ending → ℕ
status_of Done = 0
status_of Faulty = 1
status_of Usage = 2
status_of (Listing fault) = 3
status_of (Raster fault) = 3
status_of (Capture fault) = 3
status_of (Place i) = 3
status_of (Frames fault) = 3
status_of TooLong = 3
status_of ReadFailed = 4
status_of WriteFailed = 5
status_of NoMemory = 6
status_of Unaligned = 7

abbrev pub note_of : Ending → List ℕ
note_of Done = []
note_of Faulty = []
note_of Usage = usage_note
note_of (Listing fault) = listing_note fault.line fault.cause
note_of (Raster fault) = raster_note fault
note_of (Capture fault) = capture_note fault
note_of (Place i) = place_note i
note_of (Frames fault) = frames_note fault
note_of TooLong = long_note
note_of ReadFailed = read_note
note_of WriteFailed = write_note
note_of NoMemory = memory_note
note_of Unaligned = alignment_note

-- what is seen of the input and the output before and after
pub record Devices : Type 0 where
  pub left : Option (List ℕ)
  pub input_faults : ℕ
  pub held : Option (List ℕ)
  pub output_faults : ℕ

abbrev pub seen : Option (List ℕ) → ℕ → Option (List ℕ) → ℕ → Devices
seen left input_faults held output_faults = record { left = left; input_faults = input_faults; held = held; output_faults = output_faults }

-- where no device failed and memory was had, something holds of the status and of what the output had and has
abbrev pub Unless : (ℕ → Option (List ℕ) → Option (List ℕ) → Type 0) → ℕ → Devices → Devices → Type 0
Unless P status before after =
    Rose before.input_faults after.input_faults ⊎ Rose before.output_faults after.output_faults ⊎ (status ≡ 6) ⊎ P status before.held after.held

-- an outcome of the command has this ending, and its output was written
pub record IsAnswered (command : Command) (ending : Ending) (before after : Devices) (text : List ℕ) : Type 0 where
  pub outcome : RunOutcome
  pub does : Does command text outcome
  pub status : outcome.status ≡ status_of ending
  pub note : outcome.note ≡ note_of ending
  pub written : Appends before.held after.held outcome.output

abbrev pub Answers : Command → Ending → Devices → Devices → Type 0
Answers command ending before after = (text : List ℕ) → before.left ≡ Some text → IsAnswered command ending before after text

-- a part of the output of an outcome was written, and not all of it
pub record IsPart (command : Command) (before after : Devices) (text : List ℕ) : Type 0 where
  pub outcome : RunOutcome
  pub gone : ℕ
  pub does : Does command text outcome
  pub status : Contains (0 ∷ 1 ∷ []) outcome.status
  pub missing : gone < length outcome.output
  pub written : Appends before.held after.held (take gone outcome.output)

abbrev pub Parts : Command → Devices → Devices → Type 0
Parts command before after = (text : List ℕ) → before.left ≡ Some text → IsPart command before after text

-- a read failed: exactly what is reported so far of the whole blocks that were read was listed
pub record ListsRead (g : Grammar) (listing : ListingOf) (before after : Devices) : Type 0 where
  pub read : List ℕ
  pub consumed : Consumes before.left after.left read
  pub fed : Fed
  pub are : AreRead read fed
  pub events : List Event
  pub reported : IsReportedBy g fed events
  pub written : Appends before.held after.held (listing.lines events)

-- of a text not all was written, and at least its first lines
pub record IsWrittenPast (first text : List ℕ) (old new : Option (List ℕ)) : Type 0 where
  pub gone : ℕ
  pub least : length first ≤ gone
  pub missing : gone < length text
  pub written : Appends old new (take gone text)

-- a write failed: a part was written of the lines of what is reported so far of the blocks that were read, or at the
-- end of the whole text, and at least the lines of what was reported before the last block that was read
pub record ListsPart (g : Grammar) (listing : ListingOf) (before after : Devices) : Type 0 where
  pub fed : Fed
  pub first : List Event
  pub reported : IsReportedBy g fed first
  pub events : List Event
  pub some :
      ((now : Fed) × (read : List ℕ) × Consumes before.left after.left read × AreNext fed now read × IsReportedBy g now events
      × IsWrittenPast (listing.lines first) (listing.lines events) before.held after.held)
      ⊎ ((columns : ℕ) × IsAtEnd after.left × ((bytes : List ℕ) → before.left ≡ Some bytes → IsCaptureOf fed.blue fed.green fed.red bytes)
      × IsAlignedBy g fed.blue fed.green fed.red columns events × IsWrittenPast (listing.lines first) (listing.text events) before.held after.held)

-- a read failed: what was reported so far of the whole blocks that were read was listed
pub record TracksRead (r : EpochRule) (listing : TrackListing) (before after : Devices) : Type 0 where
  pub read : List ℕ
  pub consumed : Consumes before.left after.left read
  pub fed : Fed
  pub are : AreRead read fed
  pub track_events : List TrackEvent
  pub reported : HasTrackedBy r fed track_events
  pub written : Appends before.held after.held (listing.lines track_events)

-- a write failed: a part was written of the lines of what was reported so far of the blocks that were read, or at the end
-- of the whole text, and at least the lines of what was reported before the last block that was read
pub record TracksPart (r : EpochRule) (listing : TrackListing) (before after : Devices) : Type 0 where
  pub fed : Fed
  pub first : List TrackEvent
  pub reported : HasTrackedBy r fed first
  pub track_events : List TrackEvent
  pub some :
      ((now : Fed) × (read : List ℕ) × Consumes before.left after.left read × AreNext fed now read × HasTrackedBy r now track_events
      × IsWrittenPast (listing.lines first) (listing.lines track_events) before.held after.held)
      ⊎ ((epochs aligned : ℕ) × IsAtEnd after.left × ((bytes : List ℕ) → before.left ≡ Some bytes → IsCaptureOf fed.blue fed.green fed.red bytes)
      × IsTrackBy r fed epochs aligned track_events × IsWrittenPast (listing.lines first) (listing.text track_events) before.held after.held)

-- how a command ends whose listing was not read
abbrev pub list_ending : ListError → Ending
list_ending (lists.Bad fault) = Listing fault
list_ending lists.Read = ReadFailed
list_ending lists.NoMemory = NoMemory

-- how a command ends that wrote a slipped capture, or none
abbrev pub slip_ending : Result (Unit {0}) SlipError → Ending
slip_ending (Ok done) = Done
slip_ending (Err (slips.Bad fault)) = Capture fault
slip_ending (Err slips.Place) = Place 0
slip_ending (Err slips.Read) = ReadFailed
slip_ending (Err slips.Write) = WriteFailed
slip_ending (Err slips.NoMemory) = NoMemory

-- how a command ends that listed frames, or a part of them
abbrev pub frames_ending : Result (Unit {0}) BiphaseError → Ending
frames_ending (Ok done) = Done
frames_ending (Err (biphases.Bad fault)) = Frames fault
frames_ending (Err biphases.Read) = ReadFailed
frames_ending (Err biphases.Write) = WriteFailed

-- how a command ends that wrote a damaged capture, or none
abbrev pub damage_ending : Result (Unit {0}) DamageError → Ending
damage_ending (Ok done) = Done
damage_ending (Err (damages.Bad fault)) = Capture fault
damage_ending (Err (damages.Place i)) = Place i
damage_ending (Err damages.Read) = ReadFailed
damage_ending (Err damages.Write) = WriteFailed

-- the capture of a tap of columns was written, whole or in part
abbrev pub ColumnsEnd : Tap → List Column → Ending → Option (List ℕ) → Option (List ℕ) → ℕ → ℕ → Type 0
ColumnsEnd tap columns Done old new before after = Appends old new (tapped_capture columns tap)
ColumnsEnd tap columns WriteFailed old new before after =
    Rose before after × ((gone : ℕ) × (gone < length (tapped_capture columns tap)) × Appends old new (take gone (tapped_capture columns tap)))
ColumnsEnd tap columns _ old new before after = ⊥

-- the capture of a tap of columns that periods spell was written, whole or in part, or nothing of it
pub record IsWhole (spells : List Period → List Column → Type 0) (tap : Tap) (periods : List Period) (old new : Option (List ℕ)) : Type 0 where
  pub columns : List Column
  pub spelled : spells periods columns
  pub written : Appends old new (tapped_capture columns tap)

pub record IsCut (spells : List Period → List Column → Type 0) (tap : Tap) (periods : List Period) (old new : Option (List ℕ)) : Type 0 where
  pub columns : List Column
  pub spelled : spells periods columns
  pub gone : ℕ
  pub missing : gone < length (tapped_capture columns tap)
  pub written : Appends old new (take gone (tapped_capture columns tap))

abbrev pub StreamEnds : (List Period → List Column → Type 0) → Tap → List Period → Ending → Option (List ℕ) → Option (List ℕ) → ℕ → ℕ → Type 0
StreamEnds spells tap periods Done old new before after = IsWhole spells tap periods old new
StreamEnds spells tap periods WriteFailed old new before after = Rose before after × IsCut spells tap periods old new
StreamEnds spells tap periods NoMemory old new before after = Keeps old new
StreamEnds spells tap periods _ old new before after = ⊥

-- the same of a listing that was read, or was not
abbrev pub ListingEnds : (List Period → List Column → Type 0) → Tap → Result (List Period) ListError → Ending → Option (List ℕ) → Option (List ℕ) → ℕ → ℕ → Type 0
ListingEnds spells tap (Ok periods) ending old new before after = StreamEnds spells tap periods ending old new before after
ListingEnds spells tap (Err error) ending old new before after = (ending ≡ list_ending error) × (new ≡ old)

-- what is relayed of events was written, whole or in part, or nothing of it
abbrev pub RelayEnds : List Event → Ending → Option (List ℕ) → Option (List ℕ) → ℕ → ℕ → Type 0
RelayEnds events Done old new before after = (faultless events ≡ true) × IsWhole Spells whole_tap (relayed events) old new
RelayEnds events Faulty old new before after = (faultless events ≡ false) × IsWhole Spells whole_tap (relayed events) old new
RelayEnds events WriteFailed old new before after = Rose before after × IsCut Spells whole_tap (relayed events) old new
RelayEnds events NoMemory old new before after = Keeps old new
RelayEnds events _ old new before after = ⊥

-- how a command ends that may have heard faults
abbrev pub faulty_end : Ending → Ending
faulty_end Done = Faulty
faulty_end ending = ending

abbrev pub marked_end : Bool → Ending → Ending
marked_end true ending = faulty_end ending
marked_end false ending = ending

-- how a command ends whose relay failed
abbrev pub relay_ending : Option RelayFault → Ending
relay_ending (Some relay_faults.Long) = TooLong
relay_ending _ = NoMemory

-- how a command ends whose content has no raster
abbrev pub raster_ending : RasterFault → Ending
raster_ending raster_faults.NoMemory = NoMemory
raster_ending fault = Raster fault

-- how a command ends that did not hear a capture to its end
abbrev pub heard_ending : ReadCaptureError → Ending
heard_ending (heards.Bad fault) = Capture fault
heard_ending heards.Read = ReadFailed
heard_ending heards.Ear = WriteFailed

-- how a command ends whose last line was written, or not, after so many faults
abbrev pub judged_ending : {E : Type 0} → Result (Unit {0}) E → ℕ → Ending
judged_ending (Ok done) zero = Done
judged_ending (Ok done) (suc n) = Faulty
judged_ending (Err failed) n = WriteFailed

-- some capture begins with what was read of the input
abbrev pub BeginsRead : Devices → Devices → Type 0
BeginsRead before after = (read : List ℕ) × Consumes before.left after.left read × BeginsCapture read

-- what stands where a read failed: `make`, `slip` and `relay` have written nothing
abbrev pub EndsReadFailed : Command → Devices → Devices → Type 0
EndsReadFailed (MakeLink tap) before after = Keeps before.held after.held
EndsReadFailed (MakeContent tap) before after = Keeps before.held after.held
EndsReadFailed (MakeDvi tap) before after = Keeps before.held after.held
EndsReadFailed RecoverLink before after = ListsRead link_grammar link_listing before after
EndsReadFailed RecoverContent before after = ListsRead link_grammar content_listing before after
EndsReadFailed RecoverTrack before after = TracksRead stray_rule link_track_listing before after
EndsReadFailed RecoverRelock before after = TracksRead refuting_rule link_track_listing before after
EndsReadFailed RecoverContentRelock before after = TracksRead refuting_rule content_track_listing before after
EndsReadFailed (RecoverBiphase pair) before after = ListsRead link_grammar (biphase_listing pair) before after
EndsReadFailed RecoverDvi before after = ListsRead dvi_grammar link_listing before after
EndsReadFailed Check before after = ListsRead link_grammar check_listing before after
EndsReadFailed (Damage damages) before after = DamageReadFailed before.left after.left (map hit_asked damages) before.held after.held
EndsReadFailed (Slip slip) before after = Keeps before.held after.held × StopsReading before.left after.left slip.lane slip.place slip.bits
EndsReadFailed ReadBiphase before after = FramesReadFailed before.left after.left before.held after.held
EndsReadFailed Relay before after = Keeps before.held after.held × BeginsRead before after
EndsReadFailed (Sample frames) before after = ⊥

-- and where a write failed
abbrev pub EndsWriteFailed : Command → Devices → Devices → Type 0
EndsWriteFailed (MakeLink tap) before after = Parts (MakeLink tap) before after
EndsWriteFailed (MakeContent tap) before after = Parts (MakeContent tap) before after
EndsWriteFailed (MakeDvi tap) before after = Parts (MakeDvi tap) before after
EndsWriteFailed RecoverLink before after = ListsPart link_grammar link_listing before after
EndsWriteFailed RecoverContent before after = ListsPart link_grammar content_listing before after
EndsWriteFailed RecoverTrack before after = TracksPart stray_rule link_track_listing before after
EndsWriteFailed RecoverRelock before after = TracksPart refuting_rule link_track_listing before after
EndsWriteFailed RecoverContentRelock before after = TracksPart refuting_rule content_track_listing before after
EndsWriteFailed (RecoverBiphase pair) before after = ListsPart link_grammar (biphase_listing pair) before after
EndsWriteFailed RecoverDvi before after = ListsPart dvi_grammar link_listing before after
EndsWriteFailed Check before after = ListsPart link_grammar check_listing before after
EndsWriteFailed (Damage damages) before after = DamageWriteFailed before.left after.left (map hit_asked damages) before.held after.held
EndsWriteFailed (Slip slip) before after = Parts (Slip slip) before after
EndsWriteFailed ReadBiphase before after = FramesWriteFailed before.left after.left before.held after.held
EndsWriteFailed Relay before after = Parts Relay before after
EndsWriteFailed (Sample frames) before after = IsSampleCut frames before.held after.held

-- what stands where a command that reads the input ends so
abbrev pub Ends : Command → Ending → Devices → Devices → Type 0
Ends command Done before after = IsAtEnd after.left × Answers command Done before after
Ends command Faulty before after = IsAtEnd after.left × Answers command Faulty before after
Ends command (Listing fault) before after = Keeps before.held after.held × Answers command (Listing fault) before after
Ends command (Raster fault) before after = Keeps before.held after.held × Answers command (Raster fault) before after
Ends command (Capture fault) before after = (WritesLast command → Keeps before.held after.held) × Answers command (Capture fault) before after
Ends command (Frames fault) before after = (WritesLast command → Keeps before.held after.held) × Answers command (Frames fault) before after
Ends command TooLong before after = Keeps before.held after.held × Answers command TooLong before after
Ends command (Place i) before after = Keeps before.held after.held × Answers command (Place i) before after
Ends command Unaligned before after = IsAtEnd after.left × Keeps before.held after.held × Answers command Unaligned before after
Ends command ReadFailed before after = Rose before.input_faults after.input_faults × EndsReadFailed command before after
Ends command WriteFailed before after = Rose before.output_faults after.output_faults × EndsWriteFailed command before after
Ends command NoMemory before after = Keeps before.held after.held × (WritesOn command → Keeps before.left after.left)
Ends command Usage before after = ⊥

-- what stands where a run with these words ends so: a command ended, or nothing was begun, as the words name none or
-- as there was no memory to read them. `sample` reads nothing
abbrev pub RunEnds : List (List ℕ) → Ending → Devices → Devices → Type 0
RunEnds words ending before after =
    ((command : Command) × IsCommand words command × ReadsInput command × Ends command ending before after × StopsOf command ending before.left after.left before.held after.held)
    ⊎ ((frames : ℕ) × IsCommand words (Sample frames) × Keeps before.left after.left × SampleEnds frames ending before.held after.held before.output_faults after.output_faults)
    ⊎ (NamesNone words × (ending ≡ Usage) × Keeps before.left after.left × Keeps before.held after.held)
    ⊎ ((ending ≡ NoMemory) × Keeps before.left after.left × Keeps before.held after.held)

-- what stands after a failed read, or a failed write, for the command that the words name
abbrev pub RunReadFailed : List (List ℕ) → Devices → Devices → Type 0
RunReadFailed words before after = (command : Command) × IsCommand words command × EndsReadFailed command before after

abbrev pub RunWriteFailed : List (List ℕ) → Devices → Devices → Type 0
RunWriteFailed words before after = (command : Command) × IsCommand words command × EndsWriteFailed command before after
