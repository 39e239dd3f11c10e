-- The text of what is reported of lanes that may lose bits: the lines of a link listing, and a line for each slip and each
-- alignment that was let go.
use Rattle.std.proofs.Common.{◌≡◌, ◌∙◌, ℕ, ◌+◌, Bool, true, List, [], ◌∷◌, ◌++◌, refl, ap, sym, subst, append-nil, arith}
use Rattle.std.specs.Prelude.{codes, count_by, Option, Result, Ok, Err, OnOk}
use Rattle.std.specs.List.{flat_map}
use Rattle.std.specs.Io.KnownBytes.{Appends}
use Rattle.std.proofs.KnownBytes.{Appends-nil, Appends-trans}
use Rattle.std.proofs.lemmas.Grind.{flat_map-append}
use Rattle.std.proofs.lemmas.List.Sums.{sum_by-append}
use Rattle.period_grammar.specs.Exact.{is_fault_event}
use Rattle.period_grammar.specs.Events.{Event}
use Rattle.listing_writer.specs.Texts.{lines_of, fault_lines, slip_text, counted, relock_text}
use Rattle.listing_writer.specs.Growing.{lines_append, fault_lines_append}
use Rattle.track_sink.specs.TrackEvents.{TrackEvent, event, slip, relock, track_events_of}

abbrev pub track_event_text : TrackEvent → List ℕ
track_event_text (event t) = lines_of (t ∷ [])
track_event_text (slip lane place) = slip_text lane place
track_event_text (relock place) = relock_text place

unfoldable pub track_lines : List TrackEvent → List ℕ
track_lines track_events = flat_map track_event_text track_events

unfoldable pub track_text : List TrackEvent → List ℕ
track_text track_events = track_lines track_events ++ codes "end\n"

abbrev pub is_fault_track_event : TrackEvent → Bool
is_fault_track_event (event t) = is_fault_event t
is_fault_track_event (slip lane place) = true
is_fault_track_event (relock place) = true

unfoldable pub track_faults : List TrackEvent → ℕ
track_faults track_events = count_by is_fault_track_event track_events

-- they grow by events

pub no_track_events : track_lines [] ≡ []
unfolding track_lines
no_track_events = refl

pub track_lines_append : (h k : List TrackEvent) → track_lines (h ++ k) ≡ track_lines h ++ track_lines k
unfolding track_lines
track_lines_append h k = flat_map-append track_event_text h k

pub track_faults_append : (h k : List TrackEvent) → track_faults (h ++ k) ≡ track_faults h + track_faults k
unfolding track_faults
track_faults_append h k = sum_by-append _ h k

pub one_track_event : (e : TrackEvent) → track_lines (e ∷ []) ≡ track_event_text e
unfolding track_lines
one_track_event e = append-nil (track_event_text e)

pub one_slip_fault : (lane place : ℕ) → track_faults (slip lane place ∷ []) ≡ 1
unfolding track_faults
one_slip_fault lane place = refl

pub one_relock_fault : (place : ℕ) → track_faults (relock place ∷ []) ≡ 1
unfolding track_faults
one_relock_fault place = refl

no_lines : [] ≡ lines_of []
unfolding lines_of
no_lines = refl

pub event_lines : (events : List Event) → track_lines (track_events_of events) ≡ lines_of events
unfolding track_lines
event_lines [] = no_lines
event_lines (t ∷ ts) = ap (λ (bytes : List ℕ). lines_of (t ∷ []) ++ bytes) (event_lines ts) ∙ sym (lines_append (t ∷ []) ts)

one_fault : (t : Event) → track_faults (event t ∷ []) ≡ fault_lines (t ∷ [])
unfolding track_faults fault_lines
one_fault t = refl

no_faults : track_faults [] ≡ fault_lines []
unfolding track_faults fault_lines
no_faults = refl

pub event_faults : (events : List Event) → track_faults (track_events_of events) ≡ fault_lines events
event_faults [] = no_faults
event_faults (t ∷ ts) =
    let a = track_faults_append (event t ∷ []) (track_events_of ts) in
    let b = fault_lines_append (t ∷ []) ts in
    let c = one_fault t in
    let d = event_faults ts in
    omega (arith, a, b, c, d)

pub tracks_none : (x : ℕ) → x ≡ counted x (track_faults [])
unfolding track_faults
tracks_none x = omega arith

counted_sum : (x a b : ℕ) → counted (counted x a) b ≡ counted x (a + b)
counted_sum x a b = omega arith

pub tracks_both : (x y z : ℕ) (h k : List TrackEvent) → y ≡ counted x (track_faults h) → z ≡ counted y (track_faults k) → z ≡ counted x (track_faults (h ++ k))
tracks_both x y z h k first then =
    then ∙ ap (λ (n : ℕ). counted n (track_faults k)) first ∙ counted_sum x (track_faults h) (track_faults k)
    ∙ sym (ap (λ (n : ℕ). counted x n) (track_faults_append h k))

pub grows_none : (a : Option (List ℕ)) → Appends a a (track_lines [])
unfolding track_lines
grows_none a = Appends-nil a

pub grows_both : (a b c : Option (List ℕ)) (h k : List TrackEvent) → Appends a b (track_lines h) → Appends b c (track_lines k) → Appends a c (track_lines (h ++ k))
grows_both a b c h k first then =
    subst (λ (text : List ℕ). Appends a c text) (sym (track_lines_append h k)) (Appends-trans a b c (track_lines h) (track_lines k) first then)

-- events that were written and counted are events that were

pub written_events : (a b : Option (List ℕ)) (h : List Event) → Appends a b (lines_of h) → Appends a b (track_lines (track_events_of h))
written_events a b h is = subst (λ (text : List ℕ). Appends a b text) (sym (event_lines h)) is

pub events_written : (a b : Option (List ℕ)) (h : List Event) → Appends a b (track_lines (track_events_of h)) → Appends a b (lines_of h)
events_written a b h is = subst (λ (text : List ℕ). Appends a b text) (event_lines h) is

pub counted_events : (x y : ℕ) (h : List Event) → y ≡ counted x (fault_lines h) → y ≡ counted x (track_faults (track_events_of h))
counted_events x y h is = is ∙ sym (ap (λ (n : ℕ). counted x n) (event_faults h))

pub events_counted : (x y : ℕ) (h : List Event) → y ≡ counted x (track_faults (track_events_of h)) → y ≡ counted x (fault_lines h)
events_counted x y h is = is ∙ ap (λ (n : ℕ). counted x n) (event_faults h)

-- the line of a slip or of an alignment that was let go, written and counted, is an event that was

pub line_tracked : {E N : Type 0} (r : Result (Unit {0}) E) (e : TrackEvent) (x y : ℕ) (a b : Option (List ℕ)) → track_faults (e ∷ []) ≡ 1 → N → OnOk r (y ≡ counted x 1) → OnOk r (Appends a b (track_event_text e))
    → OnOk r (N × (y ≡ counted x (track_faults (e ∷ []))) × Appends a b (track_lines (e ∷ [])))
line_tracked (Ok done) e x y a b one same count written = (
  same,
  count ∙ sym (ap (λ (n : ℕ). counted x n) one),
  subst (λ (text : List ℕ). Appends a b text) (sym (one_track_event e)) written,
)
line_tracked (Err failed) e x y a b one same count written = tt
