-- What a sink of lanes that are heard epoch after epoch, by a rule of when these end, says of the blocks of a capture that it took.
use Rattle.std.specs.Prelude.{◌≡◌, ◌≤◌, ℕ, List, ◌++◌, length, Option, Some}
use Rattle.capture_file.specs.Captures.{IsCaptureOf}
use Rattle.link_sink.specs.Sinks.{Fed}
use Rattle.track_sink.specs.Epochs.{EpochRule, IsTrackBy}
use Rattle.track_sink.specs.TrackEvents.{TrackEvent}
use Rattle.track_sink.specs.Trackers.{Stops}
use Rattle.track_sink.specs.Tracks.{HasTrackedBy}
use Rattle.track_sink.specs.TrackSinks.{EpochSinkSeen, EpochSinkRepresents}
use Rattle.capture_reading.specs.Reading.{StopsShort}
use Rattle.capture_reading.specs.declared.reading.ReadCaptureError.{ReadCaptureError}

-- it was fed these bits, and the ear took what it reported of them
abbrev pub TracksOn : {A W : Type 0} → EpochRule → (W → Fed → Type 0) → (W → ℕ) → (A → A → List TrackEvent → Type 0) → EpochSinkSeen W → Fed → A → A → Type 0
TracksOn r looked passed tracked sink fed first now = (track_events : List TrackEvent) × EpochSinkRepresents r looked passed sink fed track_events × tracked first now track_events

-- an ear took what was reported of bits so far: all but what the last of them decide
pub record IsTrackedSoFar {A : Type 0} (r : EpochRule) (tracked : A → A → List TrackEvent → Type 0) (fed : Fed) (old new : A) : Type 0 where
  pub track_events : List TrackEvent
  pub reported : HasTrackedBy r fed track_events
  pub heard : tracked old new track_events

-- it took all that is reported of lanes that end, what was reported of them so far first
pub record TracksWhole {A : Type 0} (r : EpochRule) (tracked : A → A → List TrackEvent → Type 0) (fed : Fed) (epochs aligned : ℕ) (old new : A) : Type 0 where
  pub first : List TrackEvent
  pub last : List TrackEvent
  pub reported : HasTrackedBy r fed first
  pub track : IsTrackBy r fed epochs aligned (first ++ last)
  pub heard : tracked old new (first ++ last)

-- it took all that is reported of the whole capture, what was reported of it so far first
pub record IsTrackedWhole {A : Type 0} (r : EpochRule) (tracked : A → A → List TrackEvent → Type 0) (from : Option (List ℕ)) (epochs aligned : ℕ) (old new : A) : Type 0 where
  pub fed : Fed
  pub captured : (bytes : List ℕ) → from ≡ Some bytes → IsCaptureOf fed.blue fed.green fed.red bytes
  pub first : List TrackEvent
  pub last : List TrackEvent
  pub reported : HasTrackedBy r fed first
  pub track : IsTrackBy r fed epochs aligned (first ++ last)
  pub heard : tracked old new (first ++ last)

-- it failed at one of these events, after all that was reported of bits so far
pub record StopsPast {A : Type 0} (r : EpochRule) (tracked : A → A → List TrackEvent → Type 0) (lost : A → A → TrackEvent → Type 0) (fed : Fed) (track_events : List TrackEvent) (old new : A) : Type 0 where
  pub first : List TrackEvent
  pub reported : HasTrackedBy r fed first
  pub more : List TrackEvent
  pub track_events_are : track_events ≡ first ++ more
  pub stops : Stops tracked lost old new track_events
  pub past : length first ≤ length stops.taken

-- it failed in what is reported of one block more
abbrev pub LosesPast : {A : Type 0} → EpochRule → (A → A → List TrackEvent → Type 0) → (A → A → TrackEvent → Type 0) → Fed → Fed → A → A → Type 0
LosesPast r tracked lost before after old new = (track_events : List TrackEvent) × HasTrackedBy r after track_events × StopsPast r tracked lost before track_events old new

-- it failed in what is reported of the end
abbrev pub LosesLast : {A : Type 0} → EpochRule → (A → A → List TrackEvent → Type 0) → (A → A → TrackEvent → Type 0) → Fed → A → A → Type 0
LosesLast r tracked lost fed old new = (epochs aligned : ℕ) × (track_events : List TrackEvent) × IsTrackBy r fed epochs aligned track_events × StopsPast r tracked lost fed track_events old new

-- why a capture was not followed to its end
abbrev pub StopsOn : {A : Type 0} → EpochRule → (A → A → List TrackEvent → Type 0) → (A → A → TrackEvent → Type 0) → Option (List ℕ) → Option (List ℕ) → A → A → ReadCaptureError → Type 0
StopsOn r tracked lost from left old new e = StopsShort (IsTrackedSoFar r tracked) (LosesPast r tracked lost) (LosesLast r tracked lost) from left old new e

-- an ear that took what a sink reported of its bits took what is reported of them so far
pub tracked_so_far : {A W : Type 0} (r : EpochRule) (looked : W → Fed → Type 0) (passed : W → ℕ) (tracked : A → A → List TrackEvent → Type 0) (sink : EpochSinkSeen W) (fed : Fed) (first now : A)
    → TracksOn r looked passed tracked sink fed first now → IsTrackedSoFar r tracked fed first now
tracked_so_far r looked passed tracked sink fed first now h = record { track_events = h.0; reported = h.1.tracked; heard = h.2 }
