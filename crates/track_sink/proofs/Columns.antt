-- Events at their columns: what is reported at the end of an epoch.
use Rattle.std.proofs.Common.{List, [], ◌++◌, map, refl, ap, inl, inr}
use Rattle.period_grammar.specs.Events.{Event, EventAt, all_at, event_of}
use Rattle.period_grammar.specs.Heard.{heard_so_far}
use Rattle.lane_deskew.proofs.Growth.{none_of_nothing}
use Rattle.link_sink.specs.Pieces.{no_bits}
use Rattle.link_sink.specs.Sinks.{Fed, IsReportedOf, IsReportedSoFar, IsLast}
use Rattle.link_sink.specs.declared.hear.Outcome.{Outcome}
use Rattle.track_sink.specs.Epochs.{at_columns}
use Rattle.track_sink.proofs.Following.{Ends}

-- of lanes with no bits nothing is reported
pub none_told : IsReportedOf heard_so_far no_bits []
none_told = inr (none_of_nothing, refl)

-- the events alone
reported_alone : (fed : Fed) (events : List EventAt) → IsReportedOf heard_so_far fed events → IsReportedSoFar fed (map event_of events)
reported_alone fed events (inl a) = inl (a.0, a.1, a.2, a.3, ap (map event_of) a.4)
reported_alone fed events (inr a) = inr (a.0, ap (map event_of) a.1)

-- what is reported at the end is reported at the number of columns
pub ends_at : (fed : Fed) (outcome : Outcome) (last : List Event) → IsLast fed outcome last → Ends at_columns fed outcome (all_at outcome.columns last)
ends_at fed outcome last is = λ events so_far. record {
  first = events;
  last = last;
  so_far = so_far;
  whole = is (map event_of events) (reported_alone fed events so_far);
  events_are = refl;
}
