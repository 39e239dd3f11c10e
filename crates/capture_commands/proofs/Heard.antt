-- How a command ends that lists what a capture says, from how the capture was heard.
use Rattle.std.proofs.Common.{◌≡◌, ◌⊎◌, ℕ, zero, suc, ◌<◌, ◌≤◌, Bool, true, false, List, [], ◌∷◌, ◌++◌, length, take, refl, sym, ◌∙◌, subst, inl, inr, arith, append-nil}
use Rattle.std.specs.Prelude.{Option, Some, None, Result, Ok, Err, OnOk, OnErr}
use Rattle.std.specs.Io.KnownBytes.{Appends, Consumes, IsAtEnd}
use Rattle.std.proofs.KnownBytes.{Appends-trans}
use Rattle.outside_io.specs.Causes.{Rose}
use Rattle.capture_file.specs.Captures.{IsCaptureOf, IsFault, place_of}
use Rattle.capture_file.specs.declared.fault.CaptureFault.{CaptureFault}
use Rattle.period_grammar.specs.Events.{Event}
use Rattle.link_sink.specs.declared.hear.Outcome.{Outcome}
use Rattle.link_sink.specs.Alignment.{reported_under, AreReportedBy, IsAlignedBy}
use Rattle.link_sink.specs.Grammar.{Grammar}
use Rattle.link_sink.specs.Hearings.{IsGrammar}
use Rattle.link_sink.specs.Sinks.{Fed, IsReportedBy}
use Rattle.listing_writer.specs.Texts.{counted}
use Rattle.command_line.specs.declared.command.Command.{Command}
use Rattle.capture_reading.specs.Blocks.{AreBefore, AreRead, AreNext}
use Rattle.link_sink.specs.Ears.{IsHeardSoFar, IsBroken}
use Rattle.capture_commands.specs.Hearings.{IsHeardSome}
use Rattle.capture_commands.specs.Endings.{Devices, IsAnswered, ListsPart, Ends, heard_ending, judged_ending, status_of, note_of, seen}
use Rattle.capture_commands.specs.Manners.{WritesLast, WritesOn}
use Rattle.capture_commands.specs.Listings.{Listing}
use Rattle.capture_commands.specs.Notes.{capture_note, alignment_note}
use Rattle.capture_commands.specs.Outcome.{status_with}
use Rattle.capture_commands.specs.declared.ending.Ending.{Ending}
use Rattle.capture_commands.specs.declared.ending.Ending.TheVariants.{Done, Faulty, Unaligned}
use Rattle.capture_reading.specs.declared.reading.ReadCaptureError.{ReadCaptureError}
use Rattle.capture_reading.specs.declared.reading.ReadCaptureError.TheVariants.{Bad, Read, Ear}
use Rattle.capture_commands.specs.Listers.{IsText, Writes}
use Rattle.capture_commands.specs.ListsCommands.{IsLists}
use Rattle.capture_reading.proofs.BlockReading.{rose_after}
use Rattle.capture_commands.proofs.Listings.{kept_none, broken_past, text_past, end_past, begins_reported}

-- a capture was not heard to its end
pub record Unheard {A : Type 0} (g : Grammar) (took : A → A → List Event → Type 0) (broke : A → A → Event → Type 0) (left rest : Option (List ℕ)) (reads read_faults : ℕ) (old new : A) (writes write_faults : ℕ) (e : ReadCaptureError) : Type 0 where
  pub bad :
      (bytes : List ℕ) (fault : CaptureFault) → left ≡ Some bytes → e ≡ Bad fault
      → IsFault bytes fault × ((fed : Fed) × AreBefore bytes (place_of fault) fed × IsHeardSoFar g took fed old new)
  pub read :
      e ≡ Read → Rose reads read_faults
      × ((fed : Fed) × (read : List ℕ) × Consumes left rest read × AreRead read fed × IsHeardSoFar g took fed old new)
  pub broken :
      e ≡ Ear → Rose writes write_faults × (before now : Fed) × (events : List Event) × (read : List ℕ) × Consumes left rest read
      × ((AreNext before now read × IsReportedBy g now events × IsBroken g took broke before events old new)
      ⊎ ((outcome : Outcome) × IsAtEnd rest × IsCaptureOf now.blue now.green now.red read × AreReportedBy g now.blue now.green now.red outcome events × IsBroken g took broke now events old new))

-- an input that is read to its end was as long as what was read
or_nil : Option (List ℕ) → List ℕ
or_nil None = []
or_nil (Some x) = x

pub all_read : (left rest : Option (List ℕ)) (read bytes : List ℕ) → Consumes left rest read → IsAtEnd rest → left ≡ Some bytes → bytes ≡ read
unfolding or_nil
all_read left rest read bytes h k l = grind (arith, append-nil)

nothing_more : {A : Type 0} (x : A) (xs : List A) → [] ≡ x ∷ xs → ⊥
nothing_more x xs h = cc

-- of lanes that are aligned nowhere nothing is reported at which an ear could stop
aligned_if_reported : (g : Grammar) (b : Bool) (x y z : List Bool) (columns : ℕ) (events taken rest : List Event) (next : Event) → reported_under g b x y z columns events → events ≡ taken ++ (next ∷ rest) → IsAlignedBy g x y z columns events
aligned_if_reported g true x y z columns events taken rest next reported is = reported
aligned_if_reported g false x y z columns events [] rest next reported is = absurd (nothing_more next rest (sym reported.reported ∙ is))
aligned_if_reported g false x y z columns events (t ∷ taken) rest next reported is = absurd (nothing_more t (taken ++ (next ∷ rest)) (sym reported.reported ∙ is))

-- what was written where the ear broke
broken_part : {A : Type 0} (g : Grammar) (listing : Listing) (after : List Event → List Event → List ℕ) (last : List Event → List ℕ) (took : A → A → List Event → Type 0) (broke : A → A → Event → Type 0) (held : A → Option (List ℕ)) (faults : A → ℕ)
    (left rest : Option (List ℕ)) (reads read_faults : ℕ) (old new : A) → IsText listing after last → Writes listing after took broke held old
    → (before now : Fed) (events : List Event) (read : List ℕ) → Consumes left rest read
    → ((AreNext before now read × IsReportedBy g now events × IsBroken g took broke before events old new)
    ⊎ ((outcome : Outcome) × IsAtEnd rest × IsCaptureOf now.blue now.green now.red read × AreReportedBy g now.blue now.green now.red outcome events × IsBroken g took broke now events old new))
    → ListsPart g listing (seen left reads (held old) (faults old)) (seen rest read_faults (held new) (faults new))
broken_part g listing after last took broke held faults left rest reads read_faults old new it writes before now events read c (inl (next, reported, broken)) = record {
  fed = before;
  first = broken.first;
  reported = broken.reported;
  events = events;
  some = inl (now, read, c, next, reported, broken_past g listing after last took broke held before events old new it writes broken);
}
broken_part g listing after last took broke held faults left rest reads read_faults old new it writes before now events read c (inr (outcome, end, captured, reported, broken)) = record {
  fed = now;
  first = broken.first;
  reported = broken.reported;
  events = events;
  some = inr (
    outcome.columns,
    end,
    λ bytes is. subst (λ (bs : List ℕ). IsCaptureOf now.blue now.green now.red bs) (sym (all_read left rest read bytes c end is)) captured,
    aligned_if_reported g outcome.aligned now.blue now.green now.red outcome.columns events broken.stops.taken broken.stops.rest broken.stops.next reported broken.stops.events_are,
    text_past listing after last broken.first events (held old) (held new) it (broken_past g listing after last took broke held now events old new it writes broken),
  );
}

-- a command that writes while it reads does not write last
pub on_last : (command : Command) → WritesOn command → WritesLast command → ⊥
on_last command on last = grind arith

-- the ending of what was not heard to its end
pub unheard_ends : {A : Type 0} (g : Grammar) (listing : Listing) (after : List Event → List Event → List ℕ) (last : List Event → List ℕ) (command : Command) (took : A → A → List Event → Type 0) (broke : A → A → Event → Type 0) (held : A → Option (List ℕ)) (faults : A → ℕ)
    (left rest : Option (List ℕ)) (reads read_faults : ℕ) (old new : A) (e : ReadCaptureError) → IsLists g listing command → IsText listing after last → Writes listing after took broke held old
    → Unheard g took broke left rest reads read_faults old new (faults old) (faults new) e
    → Ends command (heard_ending e) (seen left reads (held old) (faults old)) (seen rest read_faults (held new) (faults new))
unheard_ends g listing after last command took broke held faults left rest reads read_faults old new (Bad fault) lists it writes u = (
  λ last. absurd (on_last command lists.on last),
  λ bytes reported. let b = u.bad bytes fault reported refl in let h = b.1.2 in record {
    outcome = record { status = 3; output = listing.lines h.events; note = capture_note fault };
    does = lists.does bytes (record { status = 3; output = listing.lines h.events; note = capture_note fault })
        (inr (fault, record { is = b.0; fed = b.1.0; before = b.1.1; events = h.events; reported = h.reported; outcome_is = refl }));
    status = refl;
    note = refl;
    written = writes.grows new h.events h.taken;
  },
)
unheard_ends g listing after last command took broke held faults left rest reads read_faults old new Read lists it writes u = grind arith
unheard_ends g listing after last command took broke held faults left rest reads read_faults old new Ear lists it writes u =
    let b = u.broken refl in
    (b.0, lists.write_failed (seen left reads (held old) (faults old)) (seen rest read_faults (held new) (faults new)) (broken_part g listing after last took broke held faults left rest reads read_faults old new it writes b.1 b.2 b.3 b.4 b.5 b.6))

-- what taking and breaking keep is kept where a capture was not heard to its end

kept_by_broken : {A G : Type 0} (g : Grammar) (took : A → A → List Event → Type 0) (broke : A → A → Event → Type 0) (name : A → G) → ((x y : A) (h : List Event) → took x y h → name y ≡ name x) → ((x y : A) (t : Event) → broke x y t → name y ≡ name x)
    → (before : Fed) (events : List Event) (old new : A) → IsBroken g took broke before events old new → name new ≡ name old
kept_by_broken g took broke name by_took by_broke before events old new b =
    by_broke b.stops.between new b.stops.next b.stops.broke_then ∙ by_took old b.stops.between b.stops.taken b.stops.took_some

kept_by_either : {A G : Type 0} (g : Grammar) (took : A → A → List Event → Type 0) (broke : A → A → Event → Type 0) (name : A → G) → ((x y : A) (h : List Event) → took x y h → name y ≡ name x) → ((x y : A) (t : Event) → broke x y t → name y ≡ name x)
    → (rest : Option (List ℕ)) (old new : A) (before now : Fed) (events : List Event) (read : List ℕ)
    → ((AreNext before now read × IsReportedBy g now events × IsBroken g took broke before events old new)
    ⊎ ((outcome : Outcome) × IsAtEnd rest × IsCaptureOf now.blue now.green now.red read × AreReportedBy g now.blue now.green now.red outcome events × IsBroken g took broke now events old new))
    → name new ≡ name old
kept_by_either g took broke name by_took by_broke rest old new before now events read (inl (next, reported, broken)) = kept_by_broken g took broke name by_took by_broke before events old new broken
kept_by_either g took broke name by_took by_broke rest old new before now events read (inr (outcome, end, captured, reported, broken)) = kept_by_broken g took broke name by_took by_broke now events old new broken

pub kept_unheard : {A G : Type 0} (g : Grammar) (took : A → A → List Event → Type 0) (broke : A → A → Event → Type 0) (name : A → G) (left rest : Option (List ℕ)) (reads read_faults : ℕ) (old new : A) (writes write_faults : ℕ) (e : ReadCaptureError)
    → ((x y : A) (h : List Event) → took x y h → name y ≡ name x) → ((x y : A) (t : Event) → broke x y t → name y ≡ name x)
    → ((e ≡ Ear → ⊥) → IsHeardSome g took old new) → Unheard g took broke left rest reads read_faults old new writes write_faults e → name new ≡ name old
kept_unheard g took broke name left rest reads read_faults old new writes write_faults e h k l m = grind (arith, kept_by_either)

-- lanes that are aligned nowhere

pub nowhere_ends : (g : Grammar) (listing : Listing) (after : List Event → List Event → List ℕ) (last : List Event → List ℕ) (command : Command) (fed : Fed) (outcome : Outcome) (events : List Event) (before now : Devices)
    → IsLists g listing command → IsText listing after last → AreReportedBy g fed.blue fed.green fed.red outcome events → outcome.aligned ≡ false
    → ((bytes : List ℕ) → before.left ≡ Some bytes → IsCaptureOf fed.blue fed.green fed.red bytes) → IsAtEnd now.left → Appends before.held now.held (listing.lines events)
    → Ends command Unaligned before now
nowhere_ends g listing after last command fed outcome events before now lists it reported not captured end written =
    let n = subst (λ b. reported_under g b fed.blue fed.green fed.red outcome.columns events) not reported in
    let none = subst (λ (ts : List Event). Appends before.held now.held (listing.lines ts)) n.reported written in (
      end,
      kept_none listing after last before.held now.held it none,
      λ bytes is. record {
        outcome = record { status = 7; output = []; note = alignment_note };
        does = lists.does bytes (record { status = 7; output = []; note = alignment_note }) (inl (fed.blue, fed.green, fed.red, captured bytes is, inr (outcome.columns, events, n, refl)));
        status = refl;
        note = refl;
        written = subst (λ (bs : List ℕ). Appends before.held now.held bs) it.none none;
      },
    )

-- lanes that are aligned, and the last line

pub no_faults : (n : ℕ) → 0 ≡ counted 0 n → status_with n ≡ 0
no_faults n h = grind arith

pub some_faults : (n m : ℕ) → suc m ≡ counted 0 n → status_with n ≡ 1
some_faults n m h = grind arith

all_answered : (g : Grammar) (listing : Listing) (after : List Event → List Event → List ℕ) (last : List Event → List ℕ) (command : Command) (e : Ending) (fed : Fed) (columns : ℕ) (events : List Event) (mid : Option (List ℕ)) (before now : Devices) (bytes : List ℕ)
    → IsLists g listing command → IsText listing after last → IsAlignedBy g fed.blue fed.green fed.red columns events → IsCaptureOf fed.blue fed.green fed.red bytes
    → status_with (listing.faults events) ≡ status_of e → [] ≡ note_of e
    → Appends before.held mid (listing.lines events) → Appends mid now.held (last events) → IsAnswered command e before now bytes
all_answered g listing after last command e fed columns events mid before now bytes lists it reported captured status note written then = record {
  outcome = record { status = status_with (listing.faults events); output = listing.text events; note = [] };
  does = lists.does bytes (record { status = status_with (listing.faults events); output = listing.text events; note = [] }) (inl (fed.blue, fed.green, fed.red, captured, inl (columns, events, reported, refl)));
  status = status;
  note = note;
  written = subst (λ (bs : List ℕ). Appends before.held now.held bs) (sym (it.whole events)) (Appends-trans before.held mid now.held (listing.lines events) (last events) written then);
}

judged_ends : {E : Type 0} (g : Grammar) (listing : Listing) (after : List Event → List Event → List ℕ) (last : List Event → List ℕ) (command : Command) (fed : Fed) (columns : ℕ) (events : List Event) (mid : Option (List ℕ)) (middle : ℕ) (before now : Devices) (r : Result (Unit {0}) E) (faults : ℕ)
    → IsGrammar g → IsLists g listing command → IsText listing after last → IsAlignedBy g fed.blue fed.green fed.red columns events
    → ((bytes : List ℕ) → before.left ≡ Some bytes → IsCaptureOf fed.blue fed.green fed.red bytes) → IsAtEnd now.left
    → Appends before.held mid (listing.lines events) → faults ≡ counted 0 (listing.faults events) → before.output_faults ≤ middle
    → OnOk r (Appends mid now.held (last events)) → OnErr r ((n : ℕ) × (n < length (last events)) × Appends mid now.held (take n (last events))) → OnErr r (Rose middle now.output_faults)
    → Ends command (judged_ending r faults) before now
judged_ends g listing after last command fed columns events mid middle before now (Ok done) zero is lists it reported captured end written count le whole part rose =
    (end, λ bytes is. all_answered g listing after last command Done fed columns events mid before now bytes lists it reported (captured bytes is) (no_faults (listing.faults events) count) refl written whole)
judged_ends g listing after last command fed columns events mid middle before now (Ok done) (suc m) is lists it reported captured end written count le whole part rose =
    (end, λ bytes is. all_answered g listing after last command Faulty fed columns events mid before now bytes lists it reported (captured bytes is) (some_faults (listing.faults events) m count) refl written whole)
judged_ends g listing after last command fed columns events mid middle before now (Err failed) faults is lists it reported captured end written count le whole part rose =
    let b = begins_reported g fed columns events is reported in (
      rose_after before.output_faults middle now.output_faults le rose,
      lists.write_failed before now (record {
        fed = fed;
        first = b.first;
        reported = b.reported;
        events = events;
        some = inr (columns, end, captured, reported, end_past listing after last b.first events part.0 before.held mid now.held it b.goes part.1 written part.2);
      }),
    )

pub heard_ends : {E : Type 0} (g : Grammar) (listing : Listing) (after : List Event → List Event → List ℕ) (last : List Event → List ℕ) (command : Command) (fed : Fed) (outcome : Outcome) (events : List Event) (mid : Option (List ℕ)) (middle : ℕ) (before now : Devices) (r : Result (Unit {0}) E) (faults : ℕ)
    → IsGrammar g → IsLists g listing command → IsText listing after last → AreReportedBy g fed.blue fed.green fed.red outcome events → outcome.aligned ≡ true
    → ((bytes : List ℕ) → before.left ≡ Some bytes → IsCaptureOf fed.blue fed.green fed.red bytes) → IsAtEnd now.left
    → Appends before.held mid (listing.lines events) → faults ≡ counted 0 (listing.faults events) → before.output_faults ≤ middle
    → OnOk r (Appends mid now.held (last events)) → OnErr r ((n : ℕ) × (n < length (last events)) × Appends mid now.held (take n (last events))) → OnErr r (Rose middle now.output_faults)
    → Ends command (judged_ending r faults) before now
heard_ends g listing after last command fed outcome events mid middle before now r faults grammar lists it reported is captured end written count le whole part rose =
    judged_ends g listing after last command fed outcome.columns events mid middle before now r faults grammar lists it (subst (λ b. reported_under g b fed.blue fed.green fed.red outcome.columns events) is reported) captured end written count le whole part rose
