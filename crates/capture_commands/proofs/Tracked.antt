-- How a command ends that lists a capture epoch after epoch, from how the capture was followed.
use Rattle.std.proofs.Common.{◌≡◌, ◌⊎◌, ℕ, zero, suc, ◌+◌, ◌<◌, ◌≤◌, Bool, false, ◌||◌, List, [], ◌∷◌, ◌++◌, length, take, refl, ap, sym, ◌∙◌, subst, inl, inr, arith, append_assoc, length-append}
use Rattle.std.specs.Prelude.{Option, Some, Result, Ok, Err, OnOk, OnErr, codes}
use Rattle.std.specs.Io.KnownBytes.{Appends, Consumes, IsAtEnd}
use Rattle.std.proofs.KnownBytes.{Appends-trans}
use Rattle.std.proofs.lemmas.List.{take-append-le}
use Rattle.outside_io.specs.Causes.{Rose}
use Rattle.terc4.specs.Columns.{one_if}
use Rattle.capture_file.specs.Captures.{IsCaptureOf}
use Rattle.period_grammar.specs.Events.{Event}
use Rattle.link_sink.specs.Alignment.{reported_by}
use Rattle.link_sink.specs.Sinks.{Fed}
use Rattle.listing_writer.specs.Texts.{counted}
use Rattle.track_sink.specs.Epochs.{EpochRule, IsTrackBy, IsTrackedBy, last_epoch, more_epochs}
use Rattle.track_sink.specs.TrackEvents.{TrackEvent, track_events_of, slip_if, relock_if, end_events}
use Rattle.track_sink.specs.declared.watch.Cause.{Cause}
use Rattle.track_sink.specs.declared.watch.Cause.TheVariants.{Slip, Unconfirmed, Refuted}
use Rattle.track_sink.specs.Tracks.{HasTrackedBy}
use Rattle.command_line.specs.declared.command.Command.{Command}
use Rattle.capture_commands.specs.ListsCommands.{IsTracks}
use Rattle.capture_reading.specs.Blocks.{AreNext}
use Rattle.capture_commands.specs.Endings.{Devices, Ends, IsAnswered, IsWrittenPast, TracksPart, heard_ending, judged_ending, note_of, seen, status_of}
use Rattle.capture_reading.specs.Reading.{IsCausedBy, IsUntaken}
use Rattle.capture_commands.specs.Notes.{alignment_note, capture_note}
use Rattle.capture_commands.specs.Outcome.{status_with}
use Rattle.capture_commands.specs.TrackListings.{TrackListing}
use Rattle.capture_commands.specs.TrackListers.{IsTrackText, WritesTrackEvents}
use Rattle.capture_commands.specs.Tracking.{LosesLast, LosesPast, StopsOn, StopsPast}
use Rattle.capture_commands.specs.declared.ending.Ending.{Ending}
use Rattle.capture_commands.specs.declared.ending.Ending.TheVariants.{Done, Faulty, Unaligned}
use Rattle.capture_reading.specs.declared.reading.ReadCaptureError.{ReadCaptureError}
use Rattle.capture_reading.specs.declared.reading.ReadCaptureError.TheVariants.{Bad, Read, Ear}
use Rattle.capture_commands.proofs.Heard.{all_read, no_faults, on_last, some_faults}
use Rattle.capture_reading.proofs.BlockReading.{rose_after}
use Rattle.capture_commands.proofs.Listings.{Goes, front_of, goes_on, kept_nothing, shorter}

-- of lanes of which no epoch is aligned nothing is reported

one_of : (b : Bool) → one_if b ≡ 0 → b ≡ false
unfolding one_if
one_of b h = grind arith

first_zero : (n m : ℕ) → n + m ≡ 0 → (n ≡ 0) × (m ≡ 0)
first_zero n m is = (omega (arith, is), omega (arith, is))

unaligned_none : (aligned : Bool) (x y z : List Bool) (columns : ℕ) (events : List Event) → aligned ≡ false → reported_by aligned x y z columns events → events ≡ []
unaligned_none aligned x y z columns events is reported = (subst (λ b. reported_by b x y z columns events) is reported).reported

false_or : (a b : Bool) → a ≡ false → b ≡ false → (a || b) ≡ false
false_or a b first second = ap (λ c. c || b) first ∙ second

none_at_end : (b : Bool) (cause : Cause) (place : ℕ) → b ≡ false → end_events {T = Event} b cause place ≡ []
none_at_end b (Slip lane) place is = ap (λ c. slip_if c lane place) is
none_at_end b Unconfirmed place is = refl
none_at_end b Refuted place is = ap (λ c. relock_if c place) is

pub nothing_reported : (r : EpochRule) (begun : Bool) (z : ℕ) (fed : Fed) (n m : ℕ) (track_events : List TrackEvent) → IsTrackedBy r begun z fed n m track_events → begun ≡ false → m ≡ 0 → track_events ≡ []
nothing_reported r begun z fed n m track_events (last_epoch _ _ _ o events none reported) start zeros =
    ap track_events_of (unaligned_none o.aligned fed.blue fed.green fed.red o.columns events (one_of o.aligned zeros) reported)
nothing_reported r begun z fed n m track_events (more_epochs _ _ _ o events cause place n1 m1 rest end reported track) start zeros =
    let split = first_zero (one_if o.aligned) m1 zeros in
    let not = one_of o.aligned split.0 in
    let none = unaligned_none o.aligned (take place fed.blue) (take place fed.green) (take place fed.red) o.columns events not reported in
    let later = false_or begun o.aligned start not in
    let rest_none = nothing_reported r (begun || o.aligned) (z + place) _ n1 m1 rest track later split.1 in
    ap (λ ts. track_events_of ts ++ (end_events (begun || o.aligned) cause (z + place) ++ rest)) none
    ∙ ap (λ es. es ++ rest) (none_at_end (begun || o.aligned) cause (z + place) later) ∙ rest_none

-- lanes that were followed to the end, and of which no epoch is aligned
pub unaligned_ends : (r : EpochRule) (listing : TrackListing) (after : List TrackEvent → List TrackEvent → List ℕ) (command : Command) → IsTracks r listing command → IsTrackText listing after → (fed : Fed) (epochs aligned : ℕ) (track_events : List TrackEvent) (before now : Devices) → IsTrackBy r fed epochs aligned track_events → aligned ≡ 0
    → ((bytes : List ℕ) → before.left ≡ Some bytes → IsCaptureOf fed.blue fed.green fed.red bytes) → IsAtEnd now.left → Appends before.held now.held (listing.lines track_events)
    → Ends command Unaligned before now
unaligned_ends r listing after command tracks it fed epochs aligned track_events before now track none captured end written =
    let empty = nothing_reported r false 0 fed epochs aligned track_events track refl none in
    let nothing = subst (λ (bytes : List ℕ). Appends before.held now.held bytes) (ap listing.lines empty ∙ it.none) written in (
      end,
      kept_nothing before.held now.held nothing,
      λ bytes is. record {
        outcome = record { status = 7; output = []; note = alignment_note };
        does = tracks.does bytes (record { status = 7; output = []; note = alignment_note }) (inl (fed, captured bytes is, (epochs, aligned, track_events, track, inr (none, refl))));
        status = refl;
        note = refl;
        written = nothing;
      },
    )

-- and of which some are

record IsFollowed (r : EpochRule) (listing : TrackListing) (fed : Fed) (epochs aligned : ℕ) (track_events : List TrackEvent) (mid : Option (List ℕ)) (before now : Devices) : Type 0 where
  first : List TrackEvent
  reported : HasTrackedBy r fed first
  goes : Goes first track_events
  track : IsTrackBy r fed epochs aligned track_events
  some : 0 < aligned
  captured : (bytes : List ℕ) → before.left ≡ Some bytes → IsCaptureOf fed.blue fed.green fed.red bytes
  ended : IsAtEnd now.left
  written : Appends before.held mid (listing.lines track_events)

all_followed : (r : EpochRule) (listing : TrackListing) (after : List TrackEvent → List TrackEvent → List ℕ) (command : Command) → IsTracks r listing command → IsTrackText listing after → (e : Ending) (fed : Fed) (epochs aligned : ℕ) (track_events : List TrackEvent) (mid : Option (List ℕ)) (before now : Devices) (bytes : List ℕ) → IsFollowed r listing fed epochs aligned track_events mid before now
    → before.left ≡ Some bytes → status_with (listing.faults track_events) ≡ status_of e → [] ≡ note_of e → Appends mid now.held (codes "end\n") → IsAnswered command e before now bytes
all_followed r listing after command tracks it e fed epochs aligned track_events mid before now bytes h is status note then = record {
  outcome = record { status = status_with (listing.faults track_events); output = listing.text track_events; note = [] };
  does = tracks.does bytes (record { status = status_with (listing.faults track_events); output = listing.text track_events; note = [] }) (inl (fed, h.captured bytes is, (epochs, aligned, track_events, h.track, inl (h.some, refl))));
  status = status;
  note = note;
  written = subst (λ (bs : List ℕ). Appends before.held now.held bs) (sym (it.whole track_events)) (Appends-trans before.held mid now.held (listing.lines track_events) (codes "end\n") h.written then);
}

lines_least : (listing : TrackListing) (after : List TrackEvent → List TrackEvent → List ℕ) (first taken : List TrackEvent) → IsTrackText listing after → Goes first taken → length (listing.lines first) ≤ length (listing.lines taken)
lines_least listing after first taken it g =
    let e = ap listing.lines g.is ∙ it.both first g.mid in
    let n = length-append (listing.lines first) (after first g.mid) in
    omega (arith, ap length e, n)

-- the last line was not written whole
end_past : (listing : TrackListing) (after : List TrackEvent → List TrackEvent → List ℕ) (first track_events : List TrackEvent) (n : ℕ) (old mid new : Option (List ℕ)) → IsTrackText listing after → Goes first track_events → n < 4 → Appends old mid (listing.lines track_events) → Appends mid new (take n (codes "end\n"))
    → IsWrittenPast (listing.lines first) (listing.text track_events) old new
end_past listing after first track_events n old mid new it g lt written then =
    let least = lines_least listing after first track_events it g in
    record {
      gone = length (listing.lines track_events) + n;
      least = omega (arith, least);
      missing = shorter (listing.text track_events) (listing.lines track_events) (codes "end\n") n (it.whole track_events) lt;
      written = subst (λ (bytes : List ℕ). Appends old new bytes) (front_of (listing.text track_events) (listing.lines track_events) (codes "end\n") n (it.whole track_events))
          (Appends-trans old mid new (listing.lines track_events) (take n (codes "end\n")) written then);
    }

judged_track : {E : Type 0} (r : EpochRule) (listing : TrackListing) (after : List TrackEvent → List TrackEvent → List ℕ) (command : Command) → IsTracks r listing command → IsTrackText listing after → (fed : Fed) (epochs aligned : ℕ) (track_events : List TrackEvent) (mid : Option (List ℕ)) (middle : ℕ) (before now : Devices) (res : Result (Unit {0}) E) (faults : ℕ)
    → IsFollowed r listing fed epochs aligned track_events mid before now → faults ≡ counted 0 (listing.faults track_events) → before.output_faults ≤ middle
    → OnOk res (Appends mid now.held (codes "end\n")) → OnErr res ((n : ℕ) × (n < 4) × Appends mid now.held (take n (codes "end\n"))) → OnErr res (Rose middle now.output_faults)
    → Ends command (judged_ending res faults) before now
judged_track r listing after command tracks it fed epochs aligned track_events mid middle before now (Ok done) zero h count le whole part rose =
    (h.ended, λ bytes is. all_followed r listing after command tracks it Done fed epochs aligned track_events mid before now bytes h is (no_faults (listing.faults track_events) count) refl whole)
judged_track r listing after command tracks it fed epochs aligned track_events mid middle before now (Ok done) (suc m) h count le whole part rose =
    (h.ended, λ bytes is. all_followed r listing after command tracks it Faulty fed epochs aligned track_events mid before now bytes h is (some_faults (listing.faults track_events) m count) refl whole)
judged_track r listing after command tracks it fed epochs aligned track_events mid middle before now (Err failed) faults h count le whole part rose = (
  rose_after before.output_faults middle now.output_faults le rose,
  tracks.write_failed before now (record {
    fed = fed;
    first = h.first;
    reported = h.reported;
    track_events = track_events;
    some = inr (epochs, aligned, h.ended, h.captured, h.track, end_past listing after h.first track_events part.0 before.held mid now.held it h.goes part.1 h.written part.2);
  }),
)

pub aligned_ends : {E : Type 0} (r : EpochRule) (listing : TrackListing) (after : List TrackEvent → List TrackEvent → List ℕ) (command : Command) → IsTracks r listing command → IsTrackText listing after → (fed : Fed) (epochs aligned : ℕ) (first track_events : List TrackEvent) (mid : Option (List ℕ)) (middle : ℕ) (before now : Devices) (res : Result (Unit {0}) E) (faults : ℕ)
    → HasTrackedBy r fed first → Goes first track_events → IsTrackBy r fed epochs aligned track_events → 0 < aligned → ((bytes : List ℕ) → before.left ≡ Some bytes → IsCaptureOf fed.blue fed.green fed.red bytes) → IsAtEnd now.left → Appends before.held mid (listing.lines track_events)
    → faults ≡ counted 0 (listing.faults track_events) → before.output_faults ≤ middle
    → OnOk res (Appends mid now.held (codes "end\n")) → OnErr res ((n : ℕ) × (n < 4) × Appends mid now.held (take n (codes "end\n"))) → OnErr res (Rose middle now.output_faults)
    → Ends command (judged_ending res faults) before now
aligned_ends r listing after command tracks it fed epochs aligned first track_events mid middle before now res faults reported goes track some captured end written count le whole part rose =
    judged_track r listing after command tracks it fed epochs aligned track_events mid middle before now res faults (record { first = first; reported = reported; goes = goes; track = track; some = some; captured = captured; ended = end; written = written }) count le whole part rose

-- a capture that was not followed to its end

lines_parts : (listing : TrackListing) (after : List TrackEvent → List TrackEvent → List ℕ) (track_events taken rest : List TrackEvent) (next : TrackEvent) → IsTrackText listing after → track_events ≡ taken ++ next ∷ rest
    → listing.lines track_events ≡ listing.lines taken ++ (after taken (next ∷ []) ++ after (taken ++ next ∷ []) rest)
lines_parts listing after track_events taken rest next it is =
    let split : track_events ≡ (taken ++ next ∷ []) ++ rest = is ∙ sym (append_assoc taken (next ∷ []) rest) in
    ap listing.lines split ∙ it.both (taken ++ next ∷ []) rest ∙ ap (λ (t : List ℕ). t ++ after (taken ++ next ∷ []) rest) (it.both taken (next ∷ []))
    ∙ append_assoc (listing.lines taken) (after taken (next ∷ [])) (after (taken ++ next ∷ []) rest)

lost_past : {A : Type 0} (r : EpochRule) (listing : TrackListing) (after : List TrackEvent → List TrackEvent → List ℕ) (tracked : A → A → List TrackEvent → Type 0) (lost : A → A → TrackEvent → Type 0) (held : A → Option (List ℕ)) (fed : Fed) (track_events : List TrackEvent) (old new : A)
    → IsTrackText listing after → WritesTrackEvents listing after tracked lost held old → (b : StopsPast r tracked lost fed track_events old new) → IsWrittenPast (listing.lines b.first) (listing.lines track_events) (held old) (held new)
lost_past r listing after tracked lost held fed track_events old new it writes b =
    let s = b.stops in
    let broken = writes.breaks s.between new s.taken s.next s.took_some s.lost_then in
    let line = after s.taken (s.next ∷ []) in
    let more = after (s.taken ++ s.next ∷ []) s.rest in
    let parts = lines_parts listing after track_events s.taken s.rest s.next it s.track_events_are in
    let m = length-append line more in
    let least = lines_least listing after b.first s.taken it (goes_on b.first s.taken b.more (s.next ∷ s.rest) (sym b.track_events_are ∙ s.track_events_are) b.past) in
    record {
      gone = length (listing.lines s.taken) + broken.0;
      least = omega (arith, least);
      missing = shorter (listing.lines track_events) (listing.lines s.taken) (line ++ more) broken.0 parts (let lt = broken.1 in omega (arith, m, lt));
      written = subst (λ (bytes : List ℕ). Appends (held old) (held new) bytes) (front_of (listing.lines track_events) (listing.lines s.taken) (line ++ more) broken.0 parts)
          (Appends-trans (held old) (held s.between) (held new) (listing.lines s.taken) (take broken.0 (line ++ more)) (writes.grows s.between s.taken s.took_some)
          (subst (λ (bytes : List ℕ). Appends (held s.between) (held new) bytes) (sym (take-append-le broken.0 line more (let lt = broken.1 in omega (arith, lt)))) broken.2));
    }

-- a part of the lines is one of the whole text
text_past : (listing : TrackListing) (after : List TrackEvent → List TrackEvent → List ℕ) (first : List ℕ) (track_events : List TrackEvent) (old new : Option (List ℕ)) → IsTrackText listing after → IsWrittenPast first (listing.lines track_events) old new → IsWrittenPast first (listing.text track_events) old new
text_past listing after first track_events old new it p =
    let missing = p.missing in
    let n = length-append (listing.lines track_events) (codes "end\n") in
    record {
      gone = p.gone;
      least = p.least;
      missing = let e = ap length (it.whole track_events) in omega (arith, e, n, missing);
      written = subst (λ (bytes : List ℕ). Appends old new bytes)
          (sym (ap (take p.gone) (it.whole track_events) ∙ take-append-le p.gone (listing.lines track_events) (codes "end\n") (omega (arith, missing)))) p.written;
    }

untaken_part : {A : Type 0} (r : EpochRule) (listing : TrackListing) (after : List TrackEvent → List TrackEvent → List ℕ) (tracked : A → A → List TrackEvent → Type 0) (lost : A → A → TrackEvent → Type 0) (held : A → Option (List ℕ)) (faults : A → ℕ) (left rest : Option (List ℕ)) (reads read_faults : ℕ) (old new : A)
    → IsTrackText listing after → WritesTrackEvents listing after tracked lost held old → IsUntaken (LosesPast r tracked lost) (LosesLast r tracked lost) left rest old new → TracksPart r listing (seen left reads (held old) (faults old)) (seen rest read_faults (held new) (faults new))
untaken_part r listing after tracked lost held faults left rest reads read_faults old new it writes u = by u.some
  where
    by : ((now : Fed) × AreNext u.fed now u.read × LosesPast r tracked lost u.fed now old new) ⊎ (IsAtEnd rest × IsCaptureOf u.fed.blue u.fed.green u.fed.red u.read × LosesLast r tracked lost u.fed old new)
        → TracksPart r listing (seen left reads (held old) (faults old)) (seen rest read_faults (held new) (faults new))
    by (inl (now, next, l)) = record {
      fed = u.fed;
      first = l.2.first;
      reported = l.2.reported;
      track_events = l.0;
      some = inl (now, u.read, u.consumed, next, l.1, lost_past r listing after tracked lost held u.fed l.0 old new it writes l.2);
    }
    by (inr (end, captured, l)) = record {
      fed = u.fed;
      first = l.4.first;
      reported = l.4.reported;
      track_events = l.2;
      some =
          inr (
            l.0,
            l.1,
            end,
            λ bytes is. subst (λ (bs : List ℕ). IsCaptureOf u.fed.blue u.fed.green u.fed.red bs) (sym (all_read left rest u.read bytes u.consumed end is)) captured,
            l.3,
            text_past listing after (listing.lines l.4.first) l.2 (held old) (held new) it (lost_past r listing after tracked lost held u.fed l.2 old new it writes l.4),
          );
    }

pub short_ends : {A : Type 0} (r : EpochRule) (listing : TrackListing) (after : List TrackEvent → List TrackEvent → List ℕ) (command : Command) → IsTracks r listing command → IsTrackText listing after → (tracked : A → A → List TrackEvent → Type 0) (lost : A → A → TrackEvent → Type 0) (held : A → Option (List ℕ)) (faults : A → ℕ) (left rest : Option (List ℕ)) (reads read_faults : ℕ) (old new : A) (e : ReadCaptureError)
    → WritesTrackEvents listing after tracked lost held old → StopsOn r tracked lost left rest old new e → IsCausedBy reads read_faults (faults old) (faults new) e
    → Ends command (heard_ending e) (seen left reads (held old) (faults old)) (seen rest read_faults (held new) (faults new))
short_ends r listing after command tracks it tracked lost held faults left rest reads read_faults old new (Bad fault) writes short cause = (
  λ last. absurd (on_last command tracks.on last),
  λ bytes reported. let b = short.1 bytes reported in let h = b.heard in record {
    outcome = record { status = 3; output = listing.lines h.track_events; note = capture_note fault };
    does = tracks.does bytes (record { status = 3; output = listing.lines h.track_events; note = capture_note fault }) (inr (fault, b.fed, h.track_events, b.faulty, b.before, h.reported, refl));
    status = refl;
    note = refl;
    written = writes.grows new h.track_events h.heard;
  },
)
short_ends r listing after command tracks it tracked lost held faults left rest reads read_faults old new Read writes short cause = (
  cause,
  tracks.read_failed (seen left reads (held old) (faults old)) (seen rest read_faults (held new) (faults new)) (record {
    read = short.read;
    consumed = short.consumed;
    fed = short.fed;
    are = short.are_read;
    track_events = short.heard.track_events;
    reported = short.heard.reported;
    written = writes.grows new short.heard.track_events short.heard.heard;
  }),
)
short_ends r listing after command tracks it tracked lost held faults left rest reads read_faults old new Ear writes short cause =
    (cause, tracks.write_failed (seen left reads (held old) (faults old)) (seen rest read_faults (held new) (faults new)) (untaken_part r listing after tracked lost held faults left rest reads read_faults old new it writes short))

-- what taking and losing keep is kept there
kept_past : {A G : Type 0} (r : EpochRule) (tracked : A → A → List TrackEvent → Type 0) (lost : A → A → TrackEvent → Type 0) (name : A → G) → ((x y : A) (h : List TrackEvent) → tracked x y h → name y ≡ name x) → ((x y : A) (e : TrackEvent) → lost x y e → name y ≡ name x)
    → (fed : Fed) (track_events : List TrackEvent) (old new : A) → StopsPast r tracked lost fed track_events old new → name new ≡ name old
kept_past r tracked lost name by_tracked by_lost fed track_events old new b = by_lost b.stops.between new b.stops.next b.stops.lost_then ∙ by_tracked old b.stops.between b.stops.taken b.stops.took_some

kept_either : {A G : Type 0} (r : EpochRule) (tracked : A → A → List TrackEvent → Type 0) (lost : A → A → TrackEvent → Type 0) (name : A → G) → ((x y : A) (h : List TrackEvent) → tracked x y h → name y ≡ name x) → ((x y : A) (e : TrackEvent) → lost x y e → name y ≡ name x)
    → (rest : Option (List ℕ)) (fed : Fed) (read : List ℕ) (old new : A)
    → ((now : Fed) × AreNext fed now read × LosesPast r tracked lost fed now old new) ⊎ (IsAtEnd rest × IsCaptureOf fed.blue fed.green fed.red read × LosesLast r tracked lost fed old new) → name new ≡ name old
kept_either r tracked lost name by_tracked by_lost rest fed read old new (inl (now, next, l)) = kept_past r tracked lost name by_tracked by_lost fed l.0 old new l.2
kept_either r tracked lost name by_tracked by_lost rest fed read old new (inr (end, captured, l)) = kept_past r tracked lost name by_tracked by_lost fed l.2 old new l.4

pub kept_short : {A G : Type 0} (r : EpochRule) (tracked : A → A → List TrackEvent → Type 0) (lost : A → A → TrackEvent → Type 0) (name : A → G) → ((x y : A) (h : List TrackEvent) → tracked x y h → name y ≡ name x) → ((x y : A) (e : TrackEvent) → lost x y e → name y ≡ name x)
    → (left rest : Option (List ℕ)) (old new : A) (e : ReadCaptureError) → StopsOn r tracked lost left rest old new e → name new ≡ name old
kept_short r tracked lost name by_tracked by_lost left rest old new (Bad fault) short = by_tracked old new short.0.1.track_events short.0.1.heard
kept_short r tracked lost name by_tracked by_lost left rest old new Read short = by_tracked old new short.heard.track_events short.heard.heard
kept_short r tracked lost name by_tracked by_lost left rest old new Ear short = kept_either r tracked lost name by_tracked by_lost rest short.fed short.read old new short.some
