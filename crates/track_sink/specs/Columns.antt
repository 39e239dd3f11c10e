-- Track events where nothing is made of their columns.
use Rattle.std.proofs.Common.{◌≡◌, List, [], ◌∷◌, ◌++◌, map, refl, ap, sym, subst}
use Rattle.std.proofs.lemmas.List.{map-append}
use Rattle.period_grammar.specs.Events.{EventAt, event_of}
use Rattle.track_sink.specs.TrackEvents.{TrackEvent, TrackEventAt, event, track_events_of, track_event_of}

-- what holds of some and others holds of both
pub told_both : (P : List TrackEvent → Type 0) (h k : List TrackEventAt) → P (map track_event_of h ++ map track_event_of k) → P (map track_event_of (h ++ k))
told_both P h k p = subst P (sym (map-append track_event_of h k)) p

events_alone : (h : List EventAt) → map track_event_of (track_events_of h) ≡ track_events_of (map event_of h)
events_alone [] = refl
events_alone (t ∷ ts) = ap (λ es. event (event_of t) ∷ es) (events_alone ts)

-- what holds of events of a link
pub told_events : (P : List TrackEvent → Type 0) (h : List EventAt) → P (track_events_of (map event_of h)) → P (map track_event_of (track_events_of h))
told_events P h p = subst P (sym (events_alone h)) p
