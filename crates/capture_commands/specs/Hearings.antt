-- What a sink that hears three lanes says of the blocks of a capture that it took.
use Rattle.std.specs.Prelude.{List}
use Rattle.tmds_word.specs.Column.{Column}
use Rattle.period_grammar.specs.Events.{Event}
use Rattle.link_sink.specs.Alignment.{AreReportedBy}
use Rattle.link_sink.specs.Ears.{IsHeardSoFar, IsBroken}
use Rattle.link_sink.specs.Grammar.{Grammar}
use Rattle.link_sink.specs.Sinks.{Fed, IsReportedBy}
use Rattle.link_sink.specs.Streams.{LaneSinkSeen, StandsBy}
use Rattle.link_sink.specs.declared.hear.Outcome.{Outcome}

-- it was fed these bits, and the ear took what is reported of them so far
abbrev pub HearsSoFar : {A H : Type 0} → Grammar → (H → List Column → Type 0) → (A → A → List Event → Type 0) → LaneSinkSeen H → Fed → A → A → Type 0
HearsSoFar g goes_on took sink fed first now = StandsBy goes_on sink fed × IsHeardSoFar g took fed first now

-- the ear took all that is reported of lanes that end
abbrev pub HearsWhole : {A : Type 0} → Grammar → (A → A → List Event → Type 0) → Fed → Outcome → A → A → Type 0
HearsWhole g took fed outcome first now = (events : List Event) × AreReportedBy g fed.blue fed.green fed.red outcome events × took first now events

-- it failed in what is reported of one block more
abbrev pub BreaksPast : {A : Type 0} → Grammar → (A → A → List Event → Type 0) → (A → A → Event → Type 0) → Fed → Fed → A → A → Type 0
BreaksPast g took broke before after first now = (events : List Event) × IsReportedBy g after events × IsBroken g took broke before events first now

-- it failed in what is reported of the end
abbrev pub BreaksLast : {A : Type 0} → Grammar → (A → A → List Event → Type 0) → (A → A → Event → Type 0) → Fed → A → A → Type 0
BreaksLast g took broke fed first now = (outcome : Outcome) × (events : List Event) × AreReportedBy g fed.blue fed.green fed.red outcome events × IsBroken g took broke fed events first now

-- it took all that is reported of some lanes so far
abbrev pub IsHeardSome : {A : Type 0} → Grammar → (A → A → List Event → Type 0) → A → A → Type 0
IsHeardSome g took old new = (fed : Fed) × IsHeardSoFar g took fed old new
