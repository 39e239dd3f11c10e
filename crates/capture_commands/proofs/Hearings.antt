-- How a capture is heard block by block.
use Rattle.std.proofs.Common.{◌≡◌, ◌≤◌, ◌+◌, ◌⊎◌, ◌++◌, ◌∷◌, [], ℕ, List, sym, subst, refl, ap, ◌∙◌, inl, inr, length, append_assoc, length-append, arith}
use Rattle.std.specs.Prelude.{Option, Some, Result, Ok, Err, OnOk, OnErr, IfOk, IfErr}
use Rattle.std.specs.Io.KnownBytes.{Consumes, IsAtEnd}
use Rattle.tmds_word.specs.Column.{Column}
use Rattle.capture_file.specs.Captures.{IsFault, IsCaptureOf, place_of}
use Rattle.capture_file.specs.declared.fault.CaptureFault.{CaptureFault}
use Rattle.period_grammar.specs.Events.{Event}
use Rattle.link_sink.specs.Alignment.{AreReportedBy}
use Rattle.link_sink.specs.Ears.{StopsIn as StopsAtEvent, IsHeardSoFar, IsBroken}
use Rattle.link_sink.specs.Grammar.{Grammar}
use Rattle.link_sink.specs.Pieces.{no_bits}
use Rattle.link_sink.specs.Sinks.{Fed, IsGainBy, IsLastBy, IsReportedBy}
use Rattle.link_sink.specs.Streams.{LaneSinkSeen, StandsBy}
use Rattle.link_sink.specs.declared.hear.Outcome.{Outcome}
use Rattle.link_sink.proofs.Following.{none_at_first}
use Rattle.outside_io.specs.Causes.{Rose}
use Rattle.capture_reading.specs.Blocks.{AreBefore, AreRead, AreNext}
use Rattle.capture_commands.specs.Hearings.{BreaksLast, BreaksPast, HearsSoFar, HearsWhole, IsHeardSome}
use Rattle.capture_reading.specs.Reading.{IsCausedBy, IsReadWhole, StopsShort}
use Rattle.capture_reading.specs.declared.reading.ReadCaptureError.{ReadCaptureError}
use Rattle.capture_reading.specs.declared.reading.ReadCaptureError.TheVariants.{Bad, Read, Ear}

-- an ear that takes one list after another takes both
abbrev pub Joins : {A : Type 0} → (A → A → List Event → Type 0) → Type 0
Joins {A} took = (x y z : A) (h k : List Event) → took x y h → took y z k → took x z (h ++ k)

-- What the sink says after a feed, and at the end.

-- nothing was fed yet, and nothing is reported
pub heard_none : {A H : Type 0} (g : Grammar) (goes_on : H → List Column → Type 0) (took : A → A → List Event → Type 0) (sink : LaneSinkSeen H) (now : A) → took now now [] → StandsBy goes_on sink no_bits → HearsSoFar g goes_on took sink no_bits now now
heard_none g goes_on took sink now none stands = (stands, record { events = []; reported = none_at_first g; taken = none })

pub hears_more : {T E A H : Type 0} (g : Grammar) (goes_on : H → List Column → Type 0) (took : A → A → List Event → Type 0) → Joins took → (r : Result T E) (sink0 sink1 : LaneSinkSeen H) (fed fed' : Fed) (first old new : A)
    → HearsSoFar g goes_on took sink0 fed first old → OnOk r (StandsBy goes_on sink1 fed') → OnOk r ((events : List Event) × IsGainBy g fed fed' events × took old new events)
    → OnOk r (HearsSoFar g goes_on took sink1 fed' first new)
hears_more g goes_on took both (Ok v) sink0 sink1 fed fed' first old new h stands gain =
    (stands, record { events = h.1.events ++ gain.0; reported = gain.1 h.1.events h.1.reported; taken = both first old new h.1.events gain.0 h.1.taken gain.2 })
hears_more g goes_on took both (Err e) sink0 sink1 fed fed' first old new h stands gain = tt

longer : (us vs : List Event) → length us ≤ length (us ++ vs)
longer us vs = let e = length-append us vs in omega (arith, e)

breaks_later : {A : Type 0} (g : Grammar) (took : A → A → List Event → Type 0) (broke : A → A → Event → Type 0) → Joins took → (fed : Fed) (events more : List Event) (first old new : A)
    → IsReportedBy g fed events → took first old events → StopsAtEvent took broke old new more → IsBroken g took broke fed (events ++ more) first new
breaks_later g took broke both fed events more first old new reported taken s = record {
  first = events;
  reported = reported;
  more = more;
  events_are = refl;
  stops = record {
    taken = events ++ s.taken;
    next = s.next;
    rest = s.rest;
    events_are = ap (λ l. events ++ l) s.events_are ∙ sym (append_assoc events s.taken (s.next ∷ s.rest));
    between = s.between;
    took_some = both first old s.between events s.taken taken s.took_some;
    broke_then = s.broke_then;
  };
  past = longer events s.taken;
}

pub breaks_past : {T E A H : Type 0} (g : Grammar) (goes_on : H → List Column → Type 0) (took : A → A → List Event → Type 0) (broke : A → A → Event → Type 0) → Joins took → (r : Result T E) (sink : LaneSinkSeen H) (fed fed' : Fed) (first old new : A)
    → HearsSoFar g goes_on took sink fed first old → OnErr r ((events : List Event) × IsGainBy g fed fed' events × StopsAtEvent took broke old new events)
    → OnErr r (BreaksPast g took broke fed fed' first new)
breaks_past g goes_on took broke both (Ok v) sink fed fed' first old new h stopped = tt
breaks_past g goes_on took broke both (Err e) sink fed fed' first old new h stopped =
    (h.1.events ++ stopped.0, stopped.1 h.1.events h.1.reported, breaks_later g took broke both fed h.1.events stopped.0 first old new h.1.reported h.1.taken stopped.2)

pub hears_whole : {E A H : Type 0} (g : Grammar) (goes_on : H → List Column → Type 0) (took : A → A → List Event → Type 0) → Joins took → (r : Result Outcome E) (sink : LaneSinkSeen H) (fed : Fed) (first old new : A)
    → HearsSoFar g goes_on took sink fed first old → IfOk r (λ outcome. (events : List Event) × IsLastBy g fed outcome events × took old new events)
    → IfOk r (λ outcome. HearsWhole g took fed outcome first new)
hears_whole g goes_on took both (Ok outcome) sink fed first old new h last = (h.1.events ++ last.0, last.1 h.1.events h.1.reported, both first old new h.1.events last.0 h.1.taken last.2)
hears_whole g goes_on took both (Err e) sink fed first old new h last = tt

pub breaks_last : {T E A H : Type 0} (g : Grammar) (goes_on : H → List Column → Type 0) (took : A → A → List Event → Type 0) (broke : A → A → Event → Type 0) → Joins took → (r : Result T E) (sink : LaneSinkSeen H) (fed : Fed) (first old new : A)
    → HearsSoFar g goes_on took sink fed first old → OnErr r ((outcome : Outcome) × (events : List Event) × IsLastBy g fed outcome events × StopsAtEvent took broke old new events)
    → OnErr r (BreaksLast g took broke fed first new)
breaks_last g goes_on took broke both (Ok v) sink fed first old new h stopped = tt
breaks_last g goes_on took broke both (Err e) sink fed first old new h stopped =
    (stopped.0, h.1.events ++ stopped.1, stopped.2 h.1.events h.1.reported, breaks_later g took broke both fed h.1.events stopped.1 first old new h.1.reported h.1.taken stopped.3)

-- What was heard of a capture.

pub all_heard : {A : Type 0} (g : Grammar) (took : A → A → List Event → Type 0) (from : Option (List ℕ)) (old new : A) (r : Result Outcome ReadCaptureError) → IfOk r (λ outcome. IsReadWhole (HearsWhole g took) from outcome old new)
    → IfOk r (λ outcome. (fed : Fed) × (events : List Event) × AreReportedBy g fed.blue fed.green fed.red outcome events × took old new events × ((bytes : List ℕ) → from ≡ Some bytes → IsCaptureOf fed.blue fed.green fed.red bytes))
all_heard g took from old new (Ok outcome) h = (h.fed, h.heard.0, h.heard.1, h.heard.2, h.captured)
all_heard g took from old new (Err e) h = tt

-- a hearing that stops short
abbrev pub HearsShort : {A : Type 0} → Grammar → (A → A → List Event → Type 0) → (A → A → Event → Type 0) → Option (List ℕ) → Option (List ℕ) → A → A → ReadCaptureError → Type 0
HearsShort g took broke from left old new e = StopsShort (IsHeardSoFar g took) (BreaksPast g took broke) (BreaksLast g took broke) from left old new e

some_of : {A : Type 0} (g : Grammar) (took : A → A → List Event → Type 0) (broke : A → A → Event → Type 0) (from left : Option (List ℕ)) (old new : A) (e : ReadCaptureError) → HearsShort g took broke from left old new e → (e ≡ Ear → ⊥) → IsHeardSome g took old new
some_of g took broke from left old new (Bad fault) h k = h.0
some_of g took broke from left old new Read h k = (h.fed, h.heard)
some_of g took broke from left old new Ear h k = absurd (k refl)

pub some_heard : {T A : Type 0} (g : Grammar) (took : A → A → List Event → Type 0) (broke : A → A → Event → Type 0) (from left : Option (List ℕ)) (old new : A) (r : Result T ReadCaptureError) → IfErr r (HearsShort g took broke from left old new)
    → IfErr r (λ e. (e ≡ Ear → ⊥) → IsHeardSome g took old new)
some_heard g took broke from left old new (Ok v) h = tt
some_heard g took broke from left old new (Err e) h = some_of g took broke from left old new e h

pub bad_heard : {T A : Type 0} (g : Grammar) (took : A → A → List Event → Type 0) (broke : A → A → Event → Type 0) (from left : Option (List ℕ)) (old new : A) (r : Result T ReadCaptureError) → IfErr r (HearsShort g took broke from left old new)
    → (bytes : List ℕ) (fault : CaptureFault) → from ≡ Some bytes → IfErr r (λ e. e ≡ Bad fault → IsFault bytes fault × ((fed : Fed) × AreBefore bytes (place_of fault) fed × IsHeardSoFar g took fed old new))
bad_heard g took broke from left old new (Ok v) h bytes fault is = tt
bad_heard g took broke from left old new (Err e) h bytes fault is = λ same. let s = (subst (HearsShort g took broke from left old new) same h).1 bytes is in (s.faulty, (s.fed, s.before, s.heard))

pub read_heard : {T A : Type 0} (g : Grammar) (took : A → A → List Event → Type 0) (broke : A → A → Event → Type 0) (from left : Option (List ℕ)) (reads reading was now : ℕ) (old new : A) (r : Result T ReadCaptureError) → IfErr r (HearsShort g took broke from left old new)
    → IfErr r (IsCausedBy reads reading was now)
    → IfErr r (λ e. e ≡ Read → Rose reads reading × ((fed : Fed) × (read : List ℕ) × Consumes from left read × AreRead read fed × IsHeardSoFar g took fed old new))
read_heard g took broke from left reads reading was now old new (Ok v) h cause = tt
read_heard g took broke from left reads reading was now old new (Err e) h cause = λ same.
    let s = subst (HearsShort g took broke from left old new) same h in (subst (IsCausedBy reads reading was now) same cause, (s.fed, s.read, s.consumed, s.are_read, s.heard))

-- what an ear's failure ended
abbrev pub Breaks : {A : Type 0} → Grammar → (A → A → List Event → Type 0) → (A → A → Event → Type 0) → Option (List ℕ) → Option (List ℕ) → ℕ → ℕ → A → A → Type 0
Breaks g took broke from left was now old new = Rose was now
    × (before after : Fed) × (events : List Event) × (read : List ℕ) × Consumes from left read
    × ((AreNext before after read × IsReportedBy g after events × IsBroken g took broke before events old new)
    ⊎ ((outcome : Outcome) × IsAtEnd left × IsCaptureOf after.blue after.green after.red read × AreReportedBy g after.blue after.green after.red outcome events × IsBroken g took broke after events old new))

breaks_in : {A : Type 0} (g : Grammar) (took : A → A → List Event → Type 0) (broke : A → A → Event → Type 0) (from left : Option (List ℕ)) (was now : ℕ) (old new : A) (fed : Fed) (read : List ℕ) → Rose was now → Consumes from left read
    → ((after : Fed) × AreNext fed after read × BreaksPast g took broke fed after old new) ⊎ (IsAtEnd left × IsCaptureOf fed.blue fed.green fed.red read × BreaksLast g took broke fed old new)
    → Breaks g took broke from left was now old new
breaks_in g took broke from left was now old new fed read cause consumed (inl (after, next, past)) = (cause, fed, after, past.0, read, consumed, inl (next, past.1, past.2))
breaks_in g took broke from left was now old new fed read cause consumed (inr (ended, captured, last)) = (cause, fed, fed, last.1, read, consumed, inr (last.0, ended, captured, last.2, last.3))

pub broken_heard : {T A : Type 0} (g : Grammar) (took : A → A → List Event → Type 0) (broke : A → A → Event → Type 0) (from left : Option (List ℕ)) (reads reading was now : ℕ) (old new : A) (r : Result T ReadCaptureError) → IfErr r (HearsShort g took broke from left old new)
    → IfErr r (IsCausedBy reads reading was now)
    → IfErr r (λ e. e ≡ Ear → Breaks g took broke from left was now old new)
broken_heard g took broke from left reads reading was now old new (Ok v) h cause = tt
broken_heard g took broke from left reads reading was now old new (Err e) h cause = λ same.
    let s = subst (HearsShort g took broke from left old new) same h in
    breaks_in g took broke from left was now old new s.fed s.read (subst (IsCausedBy reads reading was now) same cause) s.consumed s.some
