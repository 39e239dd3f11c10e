-- What `recover relock` and `recover content relock` make of each line and each island that stands alone after a control period that came
-- whole. Any bits may come before, and any characters may be received around it.
use Rattle.std.specs.Prelude.{◌≡◌, ℕ, ◌+◌, ◌-◌, ◌<◌, ◌≤◌, true, List, ◌∷◌, ◌++◌, map, Option}
use Rattle.std.specs.Io.KnownBytes.{Appends}
use Rattle.capture_file.specs.Captures.{IsCaptureOf}
use Rattle.island_pack.specs.Periods.{Period, period_columns, columns_of}
use Rattle.island_pack.specs.Sparse.{unlike_at}
use Rattle.period_grammar.specs.Events.{Event, event_of}
use Rattle.link_laws.specs.Literal.{period_placed}
use Rattle.link_laws.specs.Local.{is_between, part_at, twelve_before, StandsAlone}
use Rattle.track_sink.specs.TrackEvents.{TrackEvent, track_events_of}
use Rattle.relock_laws.specs.WholeAmid.{ComesWholeAmid}
use Rattle.capture_commands.specs.TrackListings.{TrackListing}
use Rattle.hdmi_cli.specs.RelockAgain.{AgainStream}
use Rattle.hdmi_cli.specs.RelockWhole.{columns_left}

-- Any bits come first, and then those of a tapped stream, each column of which may have been received as any characters. But one control
-- period of it came whole: its columns, nineteen at least from column j on, the three before them and the fifteen after them were received
-- as they were sent. After it no lane has a stray, and near the end of a control period no character was received as a control or guard
-- character that it was not.
pub record ComesWholeLocally (t : AgainStream) (j : ℕ) : Type 0 where
  pub comes : ComesWholeAmid t.periods t.sent t.received t.offset t.skews t.counts t.tapped t.lanes t.before j t.a t.blue t.green t.red
  pub captured : IsCaptureOf t.lanes.blue t.lanes.green t.lanes.red t.bytes

-- the row of a period that stands at column j. Columns are counted so that the first one after the control period has this number
abbrev pub row_counted : AgainStream → (count : ℕ) → Period → (j : ℕ) → List Event
row_counted t count p j = map event_of (period_placed (count + (j - (t.a + 12))) (twelve_before j t.received) p (part_at j p t.sent) (part_at j p t.received))

-- events are reported one after another, among others
pub record AreAmong (row : List Event) (events : List TrackEvent) : Type 0 where
  pub first : List TrackEvent
  pub later : List Event
  pub are : events ≡ first ++ track_events_of (row ++ later)

-- The output grew by the listing of events. Among them is the row of each line and each island that stands alone after the control period,
-- as far as the lanes go. Columns are counted from an earlier one.
pub record AreListedAlone (listing : TrackListing) (t : AgainStream) (old new : Option (List ℕ)) : Type 0 where
  pub events : List TrackEvent
  pub written : Appends old new (listing.text events)
  pub count : ℕ
  pub rows :
      (front : List Period) (p : Period) (back : List Period) → t.periods ≡ front ++ (p ∷ back) → is_between p ≡ true
      → StandsAlone t.received p t.sent (columns_of front) → t.a + 12 ≤ columns_of front
      → columns_of front + period_columns p < t.a + 12 + columns_left t.lanes t.blue t.green t.red
      → AreAmong (row_counted t count p (columns_of front)) events

-- There is such a stream after other bits: no character of some column before the control period was received as it was sent, and none of
-- some column after a period that stands alone.
pub record IsLocalWholeExample (t : AgainStream) (j : ℕ) : Type 0 where
  pub comes : ComesWholeLocally t j
  pub front : List Period
  pub alone : Period
  pub back : List Period
  pub are : t.periods ≡ front ++ (alone ∷ back)
  pub between : is_between alone ≡ true
  pub stands : StandsAlone t.received alone t.sent (columns_of front)
  pub late : t.a + 12 ≤ columns_of front
  pub within : columns_of front + period_columns alone < t.a + 12 + columns_left t.lanes t.blue t.green t.red
  pub lost_before : (i : ℕ) × (i < j) × (unlike_at t.sent t.received i ≡ 3)
  pub lost_after : (i : ℕ) × (columns_of front + period_columns alone < i) × (unlike_at t.sent t.received i ≡ 3)

abbrev pub HasLocalWholeStream : Type 0
HasLocalWholeStream = (t : AgainStream) × (j : ℕ) × IsLocalWholeExample t j
