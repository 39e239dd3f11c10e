-- What `recover track` makes of the capture of a tapped stream one lane of which lost bits within the pixels of a line.
use Rattle.std.specs.Prelude.{◌≡◌, ◌+◌, ◌-◌, ◌*◌, ◌<◌, ◌≤◌, ◌||◌, ℕ, Bool, true, false, List, [], ◌++◌, length, slice_index, Option}
use Rattle.std.specs.Io.KnownBytes.{Appends}
use Rattle.tmds_word.specs.Taps.{IsTap}
use Rattle.capture_file.specs.Captures.{IsCaptureOf}
use Rattle.terc4.specs.Tables.{is_control}
use Rattle.lane_align.specs.Lanes.{IsLock}
use Rattle.lane_deskew.specs.Aligned.{aligned_columns}
use Rattle.lane_deskew.specs.Triples.{IsFirst}
use Rattle.period_grammar.specs.Events.{Event}
use Rattle.link_laws.specs.Account.{account}
use Rattle.link_sink.specs.Alignment.{AreReported}
use Rattle.link_laws.specs.Laws.{ReceivedOf, EndsControl, BeginColumn}
use Rattle.link_sink.specs.Sinks.{Fed}
use Rattle.link_sink.specs.declared.hear.Outcome.{Outcome}
use Rattle.track_sink.specs.Epochs.{lane_of, rest_of, front_of}
use Rattle.track_sink.specs.TrackEvents.{TrackEvent, track_events_of, slip_if}
use Rattle.track_laws.specs.Laws.{Slipped, SlipsInVideo, BeginsAgain, FirstAccounted, later_skews, words_at}
use Rattle.hdmi_cli.specs.Headline.{TappedStream}
use Rattle.capture_commands.specs.Outcome.{status_with}
use Rattle.capture_commands.specs.TrackListings.{TrackListing}

-- a lane lost so many bits from a place on, within pixels of a line, of which the first one named is column `first`; column
-- `next` is the first of the control period after that line
pub record LineSlip : Type 0 where
  pub lane : ℕ
  pub place : ℕ
  pub dropped : ℕ
  pub first : ℕ
  pub next : ℕ

-- the lanes of a tapped stream, before any bit was lost
abbrev pub lanes_of : TappedStream → Fed
lanes_of t = record { blue = t.blue; green = t.green; red = t.red }

-- columns of conforming periods received with sparse damage of their payload, a tap of them, and the capture of its
-- lanes once one of them lost bits; the skews are small after that, and may differ by up to 79 bits before
pub record IsSlippedTap (t : TappedStream) (s : LineSlip) (y : Fed) : Type 0 where
  pub reception : ReceivedOf t.periods t.sent t.received
  pub tap : IsTap t.received t.offset t.skews t.counts t.blue t.green t.red
  pub slips : Slipped (lanes_of t) s.lane s.place s.dropped y
  pub in_line : SlipsInVideo t.periods t.sent t.received t.offset t.skews t.counts s.lane s.place s.dropped s.first s.next
  pub captured : IsCaptureOf y.blue y.green y.red t.bytes

-- the lane had a lock before it lost the bits, and has twelve characters of the control period after the line, those one or
-- two right before that period counted in which were received as control characters
pub record IsNoticed (t : TappedStream) (s : LineSlip) : Type 0 where
  -- the twelve control characters at which the lane locks were received before the bits that it lost
  pub lock : ℕ
  pub is_lock : IsLock (lane_of (lanes_of t) s.lane) lock
  pub before : lock + 120 ≤ s.place
  -- so many pixels right before the control period were received as control characters
  pub early : ℕ
  pub few : early ≤ 2
  pub control : (k : ℕ) → k < early → is_control (slice_index (words_at t.received s.lane) (s.next - 1 - k)) ≡ true
  -- the twelfth character from the first of these on ends before the lane does
  pub whole : 10 * (s.next - early + 12) ≤ t.offset + slice_index t.skews s.lane + slice_index t.counts s.lane

abbrev pub IsFirstIn : Fed → ℕ → ℕ → ℕ → Type 0
IsFirstIn x d e f = IsFirst x.blue x.green x.red d e f

-- how many columns lanes have from three edges on
abbrev pub columns_in : Fed → ℕ → ℕ → ℕ → ℕ
columns_in x d e f = length (aligned_columns x.blue x.green x.red d e f)

-- the events of two epochs, with the slip between them where the first has a full alignment
abbrev pub track_events_across : Bool → List Event → ℕ → ℕ → List Event → List TrackEvent
track_events_across aligned first lane start second = track_events_of first ++ (slip_if aligned lane start ++ track_events_of second)

-- There are two epochs. The second begins at the control period after the line, or one or two characters before it.
-- What is reported of the first is the account as far as columns end before the slip, what is reported of the second is
-- the account from its first full alignment on. The output grew by the lines of both with the slip's between them, or
-- by nothing where none has a full alignment.
pub record IsTrackedAcross (listing : TrackListing) (t : TappedStream) (s : LineSlip) (y : Fed) (status : ℕ) (old new : Option (List ℕ)) : Type 0 where
  pub start : ℕ
  pub begins : BeginsAgain t.received t.offset t.skews s.lane s.dropped s.next start
  pub one : Outcome
  pub two : Outcome
  pub before : List Event
  pub after : List Event
  pub first_reported : AreReported (front_of start y).blue (front_of start y).green (front_of start y).red one before
  pub second_reported : AreReported (rest_of start y).blue (rest_of start y).green (rest_of start y).red two after
  pub first_is :
      (d e f : ℕ) → IsFirstIn (front_of start y) d e f
      → FirstAccounted t.periods t.sent t.received t.offset t.skews y s.lane s.place start d e f
  pub second_is :
      (d e f : ℕ) → IsFirstIn (rest_of start y) d e f
      → (a : ℕ) × EndsControl t.periods (a + 11) × BeginColumn (t.offset + start) (later_skews t.skews s.lane s.dropped) (a + 12) d e f
      × (after ≡ account t.periods t.sent t.received a (columns_in (rest_of start y) d e f))
  pub aligned :
      (one.aligned || two.aligned) ≡ true
      → (status ≡ status_with (listing.faults (track_events_across one.aligned before s.lane start after)))
      × Appends old new (listing.text (track_events_across one.aligned before s.lane start after))
  pub unaligned : (one.aligned || two.aligned) ≡ false → (status ≡ 7) × Appends old new []
