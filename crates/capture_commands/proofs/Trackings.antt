-- How a capture is followed block by block from epoch to epoch.
use Rattle.std.proofs.Common.{◌≡◌, ◌≤◌, ◌+◌, ◌++◌, ◌∷◌, [], ℕ, List, sym, refl, ap, ◌∙◌, length, append_assoc, length-append, arith}
use Rattle.std.specs.Prelude.{Option, Result, Ok, Err, OnOk, OnErr, IfOk}
use Rattle.link_sink.specs.Pieces.{no_bits}
use Rattle.link_sink.specs.Sinks.{Fed}
use Rattle.track_sink.specs.Epochs.{EpochRule, IsTrackBy}
use Rattle.track_sink.specs.TrackEvents.{TrackEvent}
use Rattle.track_sink.specs.Tracks.{HasTrackedBy}
use Rattle.track_sink.specs.Trackers.{Stops}
use Rattle.track_sink.specs.TrackSinks.{EpochSinkSeen, EpochSinkRepresents}
use Rattle.track_sink.specs.declared.ear.TrackOutcome.{TrackOutcome}
use Rattle.capture_reading.specs.Reading.{IsReadWhole}
use Rattle.capture_commands.specs.Tracking.{IsTrackedWhole, LosesLast, LosesPast, StopsPast, TracksOn, TracksWhole}

-- an ear that takes one list after another takes both
abbrev pub JoinsTrackEvents : {A : Type 0} → (A → A → List TrackEvent → Type 0) → Type 0
JoinsTrackEvents {A} tracked = (x y z : A) (h k : List TrackEvent) → tracked x y h → tracked y z k → tracked x z (h ++ k)

pub tracks_more : {T E A W : Type 0} (r : EpochRule) (looked : W → Fed → Type 0) (passed : W → ℕ) (tracked : A → A → List TrackEvent → Type 0) → JoinsTrackEvents tracked → (res : Result T E) (sink0 sink1 : EpochSinkSeen W) (fed fed' : Fed) (first old new : A) → (h : TracksOn r looked passed tracked sink0 fed first old)
    → OnOk res ((more : List TrackEvent) × tracked old new more × EpochSinkRepresents r looked passed sink1 fed' (h.0 ++ more)) → OnOk res (TracksOn r looked passed tracked sink1 fed' first new)
tracks_more r looked passed tracked both (Ok v) sink0 sink1 fed fed' first old new h t = (h.0 ++ t.0, t.2, both first old new h.0 t.0 h.2 t.1)
tracks_more r looked passed tracked both (Err e) sink0 sink1 fed fed' first old new h t = tt

longer : (us vs : List TrackEvent) → length us ≤ length (us ++ vs)
longer us vs = let e = length-append us vs in omega (arith, e)

stops_past : {A : Type 0} (r : EpochRule) (tracked : A → A → List TrackEvent → Type 0) (lost : A → A → TrackEvent → Type 0) → JoinsTrackEvents tracked → (fed : Fed) (track_events more : List TrackEvent) (first old new : A)
    → HasTrackedBy r fed track_events → tracked first old track_events → Stops tracked lost old new more → StopsPast r tracked lost fed (track_events ++ more) first new
stops_past r tracked lost both fed track_events more first old new reported taken s = record {
  first = track_events;
  reported = reported;
  more = more;
  track_events_are = refl;
  stops = record {
    taken = track_events ++ s.taken;
    next = s.next;
    rest = s.rest;
    track_events_are = ap (λ l. track_events ++ l) s.track_events_are ∙ sym (append_assoc track_events s.taken (s.next ∷ s.rest));
    between = s.between;
    took_some = both first old s.between track_events s.taken taken s.took_some;
    lost_then = s.lost_then;
  };
  past = longer track_events s.taken;
}

pub loses_past : {T E A W : Type 0} (r : EpochRule) (looked : W → Fed → Type 0) (passed : W → ℕ) (tracked : A → A → List TrackEvent → Type 0) (lost : A → A → TrackEvent → Type 0) → JoinsTrackEvents tracked → (res : Result T E) (sink : EpochSinkSeen W) (fed fed' : Fed) (first old new : A) → (h : TracksOn r looked passed tracked sink fed first old)
    → OnErr res ((more : List TrackEvent) × Stops tracked lost old new more × HasTrackedBy r fed' (h.0 ++ more)) → OnErr res (LosesPast r tracked lost fed fed' first new)
loses_past r looked passed tracked lost both (Ok v) sink fed fed' first old new h s = tt
loses_past r looked passed tracked lost both (Err e) sink fed fed' first old new h s = (h.0 ++ s.0, s.2, stops_past r tracked lost both fed h.0 s.0 first old new h.1.tracked h.2 s.1)

pub tracks_whole : {E A W : Type 0} (r : EpochRule) (looked : W → Fed → Type 0) (passed : W → ℕ) (tracked : A → A → List TrackEvent → Type 0) → JoinsTrackEvents tracked → (res : Result TrackOutcome E) (sink : EpochSinkSeen W) (fed : Fed) (first old new : A) → (h : TracksOn r looked passed tracked sink fed first old)
    → IfOk res (λ outcome. (last : List TrackEvent) × tracked old new last × IsTrackBy r fed outcome.epochs outcome.aligned (h.0 ++ last))
    → IfOk res (λ outcome. TracksWhole r tracked fed outcome.epochs outcome.aligned first new)
tracks_whole r looked passed tracked both (Ok outcome) sink fed first old new h t = record { first = h.0; last = t.0; reported = h.1.tracked; track = t.2; heard = both first old new h.0 t.0 h.2 t.1 }
tracks_whole r looked passed tracked both (Err e) sink fed first old new h t = tt

pub loses_last : {T E A W : Type 0} (r : EpochRule) (looked : W → Fed → Type 0) (passed : W → ℕ) (tracked : A → A → List TrackEvent → Type 0) (lost : A → A → TrackEvent → Type 0) → JoinsTrackEvents tracked → (res : Result T E) (sink : EpochSinkSeen W) (fed : Fed) (first old new : A) → (h : TracksOn r looked passed tracked sink fed first old)
    → OnErr res ((epochs aligned : ℕ) × (last : List TrackEvent) × Stops tracked lost old new last × IsTrackBy r fed epochs aligned (h.0 ++ last)) → OnErr res (LosesLast r tracked lost fed first new)
loses_last r looked passed tracked lost both (Ok v) sink fed first old new h s = tt
loses_last r looked passed tracked lost both (Err e) sink fed first old new h s = (s.0, s.1, h.0 ++ s.2, s.4, stops_past r tracked lost both fed h.0 s.2 first old new h.1.tracked h.2 s.3)

-- the whole capture
pub all_tracked : {E A : Type 0} (r : EpochRule) (tracked : A → A → List TrackEvent → Type 0) (from : Option (List ℕ)) (old new : A) (res : Result TrackOutcome E)
    → IfOk res (λ outcome. IsReadWhole (λ (fed : Fed) (o : TrackOutcome) (x y : A). TracksWhole r tracked fed o.epochs o.aligned x y) from outcome old new)
    → IfOk res (λ outcome. IsTrackedWhole r tracked from outcome.epochs outcome.aligned old new)
all_tracked r tracked from old new (Ok outcome) h =
    record { fed = h.fed; captured = h.captured; first = h.heard.first; last = h.heard.last; reported = h.heard.reported; track = h.heard.track; heard = h.heard.heard }
all_tracked r tracked from old new (Err e) h = tt
