-- What a sink of lanes that are heard epoch after epoch stands for.
use Rattle.std.specs.Prelude.{◌≡◌, ℕ, Bool, true, List}
use Rattle.link_sink.specs.Sinks.{Fed}
use Rattle.track_sink.specs.TrackEvents.{TrackEvent, TrackEventAt}
use Rattle.track_sink.specs.Epochs.{EpochRule, stray_rule}
use Rattle.track_sink.specs.Seeking.{IsSought}
use Rattle.track_sink.specs.Trackers.{lane_fed, most_fed, HasReportedAt, IsSettled}
use Rattle.track_sink.specs.Tracks.{HasTrackedBy, HasTrackedAt}
use Rattle.track_sink.specs.declared.strays.Strays.{Strays}
use Rattle.track_sink.specs.declared.tracker.Tracker.{Tracker}

-- what contracts see of a sink
pub record EpochSinkSeen (W : Type 0) : Type 0 where
  pub tracker : Tracker
  pub watch : W
  pub is_open : Bool

-- a sink stands for the bits that it was fed and the events that it reported of them: it has reported all but what the
-- last bits of each lane decide. Callers take how it stands as a whole
pub record EpochSinkRepresents {W : Type 0} (r : EpochRule) (looked : W → Fed → Type 0) (passed : W → ℕ) (sink : EpochSinkSeen W) (fed : Fed) (reported : List TrackEvent) : Type 0 where
  pub tracked : HasTrackedBy r fed reported
  pub settled : IsSettled r looked passed sink.tracker sink.watch fed reported

-- the same of events each of which has its column
pub record EpochSinkTells {W : Type 0} (r : EpochRule) (looked : W → Fed → Type 0) (passed : W → ℕ) (sink : EpochSinkSeen W) (fed : Fed) (reported : List TrackEventAt) : Type 0 where
  pub tracked : HasTrackedAt r fed reported
  pub reported_are : HasReportedAt r sink.tracker fed reported
  pub events : List TrackEvent
  pub represents : EpochSinkRepresents r looked passed sink fed events

-- the same where epochs end at strays
abbrev pub TrackSinkSeen : Type 0
TrackSinkSeen = EpochSinkSeen Strays

abbrev pub TrackSinkRepresents : TrackSinkSeen → Fed → List TrackEvent → Type 0
TrackSinkRepresents sink fed reported = EpochSinkRepresents stray_rule IsSought (λ w. w.seen) sink fed reported

-- how many bits it was fed of a lane, and of the longest
abbrev pub bits_fed : {W : Type 0} → EpochSinkSeen W → ℕ → ℕ
bits_fed sink lane = lane_fed sink.tracker lane

abbrev pub most_bits : {W : Type 0} → EpochSinkSeen W → ℕ
most_bits sink = most_fed sink.tracker

-- as long as it is open, there are bits and events that it stands for
abbrev pub IsKept : {W : Type 0} → EpochRule → (W → Fed → Type 0) → (W → ℕ) → Bool → Tracker → W → Type 0
IsKept r looked passed is_open tracker watch = is_open ≡ true → (fed : Fed) × (reported : List TrackEvent) × IsSettled r looked passed tracker watch fed reported
