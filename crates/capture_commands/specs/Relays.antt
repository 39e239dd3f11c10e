-- What `relay` makes of a capture: the capture of the columns that the relayed periods spell, from offset 0 and without skew.
use Rattle.std.specs.Prelude.{◌≡◌, ◌⊎◌, ◌<◌, ◌≤◌, ℕ, Bool, true, false, List, [], ◌∷◌, ◌++◌, None}
use Rattle.tmds_word.specs.Column.{Column}
use Rattle.island_pack.specs.Periods.{columns_of}
use Rattle.island_pack.specs.Spelling.{Spells}
use Rattle.island_pack.specs.declared.ranges.TheConstants.{COLUMN_LIMIT}
use Rattle.capture_file.specs.Captures.{IsCaptureOf, IsFault, place_of}
use Rattle.capture_file.specs.Taps.{tapped_capture}
use Rattle.capture_file.specs.declared.fault.CaptureFault.{CaptureFault}
use Rattle.capture_file.specs.declared.writing.Tap.{Tap}
use Rattle.period_grammar.specs.Events.{Event}
use Rattle.link_sink.specs.Alignment.{IsAlignedReported}
use Rattle.link_sink.specs.Sinks.{Fed, IsReportedSoFar}
use Rattle.relay.specs.Relayed.{relayed}
use Rattle.capture_reading.specs.Blocks.{AreBefore, HasBlocks}

-- the whole of each lane, from its first bit on
abbrev pub whole_tap : Tap
whole_tap = record { version = 1; offset = 0; skews = 0 ∷ 0 ∷ 0 ∷ []; bits = None }

abbrev pub relay_status : Bool → ℕ
relay_status true = 0
relay_status false = 1

-- what is relayed of events has at most 20,000,000 columns, and these are written
pub record IsRelayed (events : List Event) (output : List ℕ) : Type 0 where
  pub columns : List Column
  pub few : columns_of (relayed events) ≤ COLUMN_LIMIT
  pub spelled : Spells (relayed events) columns
  pub output_is : output ≡ tapped_capture columns whole_tap

-- of the first whole blocks of bytes, or of all of a capture, events are reported of which too many columns are relayed
pub record PassesLimit (bytes : List ℕ) : Type 0 where
  pub fed : Fed
  pub events : List Event
  pub reported :
      ((taken rest counts : List ℕ) × (j : ℕ) × (bytes ≡ taken ++ rest) × HasBlocks counts j taken fed × IsReportedSoFar fed events)
      ⊎ ((columns : ℕ) × IsCaptureOf fed.blue fed.green fed.red bytes × IsAlignedReported fed.blue fed.green fed.red columns events)
  pub passes : COLUMN_LIMIT < columns_of (relayed events)

-- bytes stop being a capture, and no more than the limit is relayed of what is reported of their whole blocks
pub record RelaysBefore (bytes : List ℕ) (fault : CaptureFault) : Type 0 where
  pub is : IsFault bytes fault
  pub fed : Fed
  pub before : AreBefore bytes (place_of fault) fed
  pub events : List Event
  pub reported : IsReportedSoFar fed events
  pub few : columns_of (relayed events) ≤ COLUMN_LIMIT
