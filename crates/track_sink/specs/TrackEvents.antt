-- What a tracker reports: events, and between them slips and alignments that were refuted.
use Rattle.std.specs.Prelude.{ℕ, Bool, true, false, List, [], ◌∷◌, map}
use Rattle.period_grammar.specs.Events.{Event, EventAt, event_of}
use Rattle.track_sink.specs.declared.watch.Cause.{Cause}
use Rattle.track_sink.specs.declared.watch.Cause.TheVariants.{Slip, Unconfirmed, Refuted}

-- an event of a link is told as a T: alone, or with the column of its epoch
pub data TrackEventOf (T : Type 0) : Type 0 where
  event : T → TrackEventOf T
  -- a lane lost its characters' places: the lane, and the place of the capture at which the search begins anew
  slip : ℕ → ℕ → TrackEventOf T
  -- an alignment was let go: the place of the capture at which the search begins anew
  relock : ℕ → TrackEventOf T

abbrev pub TrackEvent : Type 0
TrackEvent = TrackEventOf Event

abbrev pub TrackEventAt : Type 0
TrackEventAt = TrackEventOf EventAt

abbrev pub track_events_of : {T : Type 0} → List T → List (TrackEventOf T)
track_events_of events = map event events

-- without the columns
abbrev pub track_event_of : TrackEventAt → TrackEvent
track_event_of (event t) = event (event_of t)
track_event_of (slip lane place) = slip lane place
track_event_of (relock place) = relock place

-- a slip is reported only once there was an alignment
abbrev pub slip_if : {T : Type 0} → Bool → ℕ → ℕ → List (TrackEventOf T)
slip_if true lane place = slip lane place ∷ []
slip_if false lane place = []

-- so is an alignment that was let go, and an epoch that ends for one has had it
abbrev pub relock_if : {T : Type 0} → Bool → ℕ → List (TrackEventOf T)
relock_if true place = relock place ∷ []
relock_if false place = []

-- of an alignment that is not confirmed nothing is reported
abbrev pub end_events : {T : Type 0} → Bool → Cause → ℕ → List (TrackEventOf T)
end_events begun (Slip lane) place = slip_if begun lane place
end_events begun Unconfirmed place = []
end_events begun Refuted place = relock_if begun place
