-- What the program is to do: the status, the output and the note for the words and the input's bytes, where memory is
-- had and no device fails.
use Rattle.std.specs.Prelude.{◌≡◌, ◌⊎◌, ℕ, zero, suc, Bool, List, [], map, Option, Some, None, ◌+◌, ◌<◌, ◌++◌, codes, slice_index}
use Rattle.tmds_word.specs.Column.{Column}
use Rattle.island_pack.specs.Periods.{Period}
use Rattle.island_pack.specs.Spelling.{Spells}
use Rattle.source_end.specs.Content.{Frame}
use Rattle.source_end.specs.DviPeriods.{DviSpells}
use Rattle.source_end.specs.Raster.{raster_of}
use Rattle.source_end.specs.RasterRefusals.{raster_fault}
use Rattle.source_end.specs.declared.mode.Mode.{Mode}
use Rattle.source_end.specs.declared.refusal.RasterFault.{RasterFault}
use Rattle.capture_file.specs.declared.fault.CaptureFault.{CaptureFault}
use Rattle.capture_file.specs.declared.writing.Tap.{Tap}
use Rattle.capture_file.specs.Captures.{IsCaptureOf, IsFault, place_of}
use Rattle.capture_file.specs.BlockDamage.{IsDamagedCapture, IsMisplacedIn, IsFaultyDamage}
use Rattle.capture_file.specs.declared.damaging.Hit.{Hit}
use Rattle.capture_file.specs.Captures.{IsHeader}
use Rattle.capture_file.specs.Slips.{IsSlippedCapture, IsWithinLane}
use Rattle.biphase_listing.specs.FrameText.{frames_text}
use Rattle.biphase_listing.specs.Groups.{IsStream}
use Rattle.biphase_listing.specs.Refusals.{IsRefused}
use Rattle.biphase_listing.specs.declared.fault.BiphaseFault.{BiphaseFault}
use Rattle.audio_packets.specs.declared.sample.Sample.{Sample as Sound}
use Rattle.command_line.specs.declared.slip.SlipWord.{SlipWord}
use Rattle.capture_file.specs.Taps.{tapped_capture}
use Rattle.period_grammar.specs.Exact.{faultless}
use Rattle.period_grammar.specs.Events.{Event}
use Rattle.dvi_hearing.specs.DviGrammar.{dvi_grammar}
use Rattle.link_sink.specs.Alignment.{IsAlignedBy, IsAlignedReported, IsNowhereReported}
use Rattle.link_sink.specs.Grammar.{Grammar, link_grammar}
use Rattle.link_sink.specs.Sinks.{Fed, IsReportedBy}
use Rattle.listing_reader.specs.Reading.{reads_as}
use Rattle.listing_reader.specs.DviReading.{dvi_reads_as}
use Rattle.listing_reader.specs.LineSteps.{Read, accepts, refuses}
use Rattle.listing_reader.specs.ContentReading.{content_reads_as}
use Rattle.sampling.specs.Counts.{counts_text}
use Rattle.sampling.specs.Sampled.{IsSampled}
use Rattle.sampling.specs.declared.counts.Counts.{Counts}
use Rattle.capture_reading.specs.Blocks.{AreBefore}
use Rattle.capture_commands.specs.Commands.{hit_asked, tap_asked}
use Rattle.capture_commands.specs.Listings.{Listing, link_listing, check_listing, content_listing, biphase_listing}
use Rattle.capture_commands.specs.Notes.{listing_note, raster_note, capture_note, place_note, long_note, frames_note, usage_note, alignment_note}
use Rattle.relock_sink.specs.Refuting.{refuting_rule}
use Rattle.track_sink.specs.Epochs.{EpochRule, stray_rule, IsTrackBy}
use Rattle.track_sink.specs.TrackEvents.{TrackEvent}
use Rattle.track_sink.specs.Tracks.{HasTrackedBy}
use Rattle.capture_commands.specs.TrackListings.{TrackListing, link_track_listing, content_track_listing}
use Rattle.capture_commands.specs.Relays.{IsRelayed, PassesLimit, RelaysBefore, relay_status}
use Rattle.command_line.specs.Commands.{IsCommand}
use Rattle.command_line.specs.declared.command.Command.{Command}
use Rattle.command_line.specs.declared.command.Command.TheVariants.{MakeLink, MakeContent, MakeDvi, RecoverLink, RecoverContent, RecoverTrack, RecoverRelock, RecoverContentRelock, RecoverBiphase, RecoverDvi, Check, Damage, Slip, ReadBiphase, Relay, Sample}

pub record RunOutcome : Type 0 where
  pub status : ℕ
  pub output : List ℕ
  pub note : List ℕ

-- the capture of a tap of columns that periods spell, with guard columns or without, is made
abbrev pub MakesStream : (List Period → List Column → Type 0) → Tap → List Period → RunOutcome → Type 0
MakesStream spells tap periods outcome =
    (columns : List Column) × spells periods columns × (outcome ≡ record { status = 0; output = tapped_capture columns tap; note = [] })

-- a listing is made into a capture, or is refused by its first wrong line
abbrev pub MakesLink : (List Period → List Column → Type 0) → Tap → Read (List Period) → RunOutcome → Type 0
MakesLink spells tap (accepts periods) outcome = MakesStream spells tap periods outcome
MakesLink spells tap (refuses line cause) outcome = outcome ≡ record { status = 3; output = []; note = listing_note line cause }

-- a content is made into the capture of its raster, or is refused by the first fault that the raster has, or by its first
-- wrong line
abbrev pub MakesRaster : Tap → Mode → List Frame → Option RasterFault → RunOutcome → Type 0
MakesRaster tap mode frames None outcome = MakesStream Spells tap (raster_of mode frames) outcome
MakesRaster tap mode frames (Some fault) outcome = outcome ≡ record { status = 3; output = []; note = raster_note fault }

abbrev pub MakesContent : Tap → Read (Mode × List Frame) → RunOutcome → Type 0
MakesContent tap (accepts content) outcome = MakesRaster tap content.0 content.1 (raster_fault content.0 content.1) outcome
MakesContent tap (refuses line cause) outcome = outcome ≡ record { status = 3; output = []; note = listing_note line cause }

-- done, or done with so many faults
abbrev pub status_with : ℕ → ℕ
status_with zero = 0
status_with (suc n) = 1

-- lanes are listed by a grammar, or nothing is where they have no full alignment
abbrev pub ListsLanes : Grammar → Listing → List Bool → List Bool → List Bool → RunOutcome → Type 0
ListsLanes g listing x y z outcome =
    ((columns : ℕ) × (events : List Event) × IsAlignedBy g x y z columns events
    × (outcome ≡ record { status = status_with (listing.faults events); output = listing.text events; note = [] }))
    ⊎ ((columns : ℕ) × (events : List Event) × IsNowhereReported x y z columns events
    × (outcome ≡ record { status = 7; output = []; note = alignment_note }))

-- bytes are refused by the place at which they stop being a capture: what is reported so far of the whole blocks before
-- it is listed, and nothing of what would be reported at an end
pub record ListsBefore (g : Grammar) (listing : Listing) (bytes : List ℕ) (fault : CaptureFault) (outcome : RunOutcome) : Type 0 where
  pub is : IsFault bytes fault
  pub fed : Fed
  pub before : AreBefore bytes (place_of fault) fed
  pub events : List Event
  pub reported : IsReportedBy g fed events
  pub outcome_is : outcome ≡ record { status = 3; output = listing.lines events; note = capture_note fault }

-- bytes are a capture, of either version, whose lanes are listed, or are refused
abbrev pub ListsCapture : Grammar → Listing → List ℕ → RunOutcome → Type 0
ListsCapture g listing bytes outcome =
    ((blue green red : List Bool) × IsCaptureOf blue green red bytes × ListsLanes g listing blue green red outcome)
    ⊎ ((fault : CaptureFault) × ListsBefore g listing bytes fault outcome)

-- bytes are a capture, of either version, whose damaged capture is written, or are refused: by the first hit past the end of
-- its own lane, or by the place at which they stop being a capture, with the header and the whole blocks before it damaged
abbrev pub Damages : List Hit → List ℕ → RunOutcome → Type 0
Damages hits bytes outcome =
    ((whole : List ℕ) × IsDamagedCapture bytes hits whole × (outcome ≡ record { status = 0; output = whole; note = [] }))
    ⊎ ((i : ℕ) × IsMisplacedIn bytes hits i × (outcome ≡ record { status = 3; output = []; note = place_note i }))
    ⊎ ((fault : CaptureFault) × (out : List ℕ) × IsFaultyDamage bytes hits fault out × (outcome ≡ record { status = 3; output = out; note = capture_note fault }))

-- the counts of a sample are written, whatever the input has
abbrev pub Samples : ℕ → RunOutcome → Type 0
Samples frames outcome = (counts : Counts) × IsSampled frames counts × (outcome ≡ record { status = 0; output = counts_text counts; note = [] })

-- the events of lanes are listed, or nothing is where no epoch has a full alignment
abbrev pub TracksLanes : EpochRule → TrackListing → Fed → RunOutcome → Type 0
TracksLanes r listing fed outcome =
    ((epochs aligned : ℕ) × (track_events : List TrackEvent) × IsTrackBy r fed epochs aligned track_events
    × (((0 < aligned) × (outcome ≡ record { status = status_with (listing.faults track_events); output = listing.text track_events; note = [] }))
    ⊎ ((aligned ≡ 0) × (outcome ≡ record { status = 7; output = []; note = alignment_note }))))

-- bytes are a capture whose lanes are followed from epoch to epoch, or are refused: what was reported so far of the whole
-- blocks before is listed
abbrev pub TracksCapture : EpochRule → TrackListing → List ℕ → RunOutcome → Type 0
TracksCapture r listing bytes outcome =
    ((fed : Fed) × IsCaptureOf fed.blue fed.green fed.red bytes × TracksLanes r listing fed outcome)
    ⊎ ((fault : CaptureFault) × (fed : Fed) × (track_events : List TrackEvent) × IsFault bytes fault × AreBefore bytes (place_of fault) fed × HasTrackedBy r fed track_events
    × (outcome ≡ record { status = 3; output = listing.lines track_events; note = capture_note fault }))

-- the bits of a slip pass the end of their lane, as a header says it
abbrev pub IsPastEnd : SlipWord → List ℕ → Type 0
IsPastEnd slip bytes = (head counts tail : List ℕ) × IsHeader head counts × (bytes ≡ head ++ tail) × (slice_index counts slip.lane < slip.place + slip.bits)

-- the capture without the bits of a slip is written, or they pass the end of their lane, or the bytes are no capture
abbrev pub Slips : SlipWord → List ℕ → RunOutcome → Type 0
Slips slip bytes outcome =
    ((whole : List ℕ) × IsSlippedCapture bytes slip.lane slip.place slip.bits whole × (outcome ≡ record { status = 0; output = whole; note = [] }))
    ⊎ (IsPastEnd slip bytes × (outcome ≡ record { status = 3; output = []; note = place_note 0 }))
    ⊎ ((fault : CaptureFault) × IsFault bytes fault × IsWithinLane bytes slip.lane slip.place slip.bits
    × (outcome ≡ record { status = 3; output = []; note = capture_note fault }))

-- frames are listed, or those before the first fault
abbrev pub ListsFrames : List ℕ → RunOutcome → Type 0
ListsFrames bytes outcome =
    ((samples : List Sound) × IsStream samples bytes × (outcome ≡ record { status = 0; output = frames_text samples ++ codes "end\n"; note = [] }))
    ⊎ ((fault : BiphaseFault) × (samples : List Sound) × IsRefused bytes fault samples × (outcome ≡ record { status = 3; output = frames_text samples; note = frames_note fault }))

-- the whole periods of what a capture says are relayed, or they are too many, or it says nothing, or is refused
abbrev pub Relays : List ℕ → RunOutcome → Type 0
Relays bytes outcome =
    ((blue green red : List Bool) × (columns : ℕ) × (events : List Event) × (output : List ℕ) × IsCaptureOf blue green red bytes × IsAlignedReported blue green red columns events
    × IsRelayed events output × (outcome ≡ record { status = relay_status (faultless events); output = output; note = [] }))
    ⊎ ((blue green red : List Bool) × (columns : ℕ) × (events : List Event) × IsCaptureOf blue green red bytes × IsNowhereReported blue green red columns events
    × (outcome ≡ record { status = 7; output = []; note = alignment_note }))
    ⊎ (PassesLimit bytes × (outcome ≡ record { status = 3; output = []; note = long_note }))
    ⊎ ((fault : CaptureFault) × RelaysBefore bytes fault × (outcome ≡ record { status = 3; output = []; note = capture_note fault }))

-- what a command makes of the input's bytes
abbrev pub Does : Command → List ℕ → RunOutcome → Type 0
Does (MakeLink tap) input outcome = MakesLink Spells (tap_asked tap) (reads_as input) outcome
Does (MakeContent tap) input outcome = MakesContent (tap_asked tap) (content_reads_as input) outcome
Does RecoverLink input outcome = ListsCapture link_grammar link_listing input outcome
Does (MakeDvi tap) input outcome = MakesLink DviSpells (tap_asked tap) (dvi_reads_as input) outcome
Does RecoverContent input outcome = ListsCapture link_grammar content_listing input outcome
Does RecoverTrack input outcome = TracksCapture stray_rule link_track_listing input outcome
Does RecoverRelock input outcome = TracksCapture refuting_rule link_track_listing input outcome
Does RecoverContentRelock input outcome = TracksCapture refuting_rule content_track_listing input outcome
Does (RecoverBiphase pair) input outcome = ListsCapture link_grammar (biphase_listing pair) input outcome
Does RecoverDvi input outcome = ListsCapture dvi_grammar link_listing input outcome
Does Check input outcome = ListsCapture link_grammar check_listing input outcome
Does (Damage damages) input outcome = Damages (map hit_asked damages) input outcome
Does (Slip slip) input outcome = Slips slip input outcome
Does ReadBiphase input outcome = ListsFrames input outcome
Does Relay input outcome = Relays input outcome
Does (Sample frames) input outcome = Samples frames outcome

-- the words name no command
abbrev pub NamesNone : List (List ℕ) → Type 0
NamesNone words = (command : Command) → IsCommand words command → ⊥

-- the outcome of these words over an input of these bytes
abbrev pub IsOutcome : List (List ℕ) → List ℕ → RunOutcome → Type 0
IsOutcome words input outcome =
    ((command : Command) × IsCommand words command × Does command input outcome)
    ⊎ (NamesNone words × (outcome ≡ record { status = 2; output = []; note = usage_note }))
