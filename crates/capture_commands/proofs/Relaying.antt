-- How `relay` ends, from how the capture was heard and what the relay stands for.
use Rattle.std.proofs.Common.{◌≡◌, ℕ, ◌≤◌, Bool, true, false, not, List, [], ◌∷◌, refl, ap, subst, inl, inr, arith}
use Rattle.std.specs.Prelude.{Option, Some, None, Contains}
use Rattle.std.specs.Io.KnownBytes.{Consumes, IsAtEnd, Keeps}
use Rattle.island_pack.specs.Periods.{Period, columns_of}
use Rattle.island_pack.specs.Spelling.{Spells}
use Rattle.island_pack.specs.declared.ranges.TheConstants.{COLUMN_LIMIT}
use Rattle.capture_file.specs.Captures.{IsCaptureOf, IsFault, place_of}
use Rattle.capture_file.specs.Taps.{tapped_capture}
use Rattle.capture_file.specs.declared.fault.CaptureFault.{CaptureFault}
use Rattle.capture_file.proofs.Damages.{nothing_written}
use Rattle.period_grammar.specs.Exact.{faultless}
use Rattle.period_grammar.specs.Events.{Event}
use Rattle.link_sink.specs.Alignment.{AreReported, reported_by, IsAlignedReported}
use Rattle.link_sink.specs.Grammar.{link_grammar}
use Rattle.link_sink.specs.Sinks.{Fed}
use Rattle.link_sink.specs.declared.hear.Outcome.{Outcome}
use Rattle.relay.specs.Relayed.{relayed}
use Rattle.relay.specs.Standing.{RelayRepresents, Took}
use Rattle.relay.specs.declared.relaying.Relay.{Relay as RelayValue}
use Rattle.relay.specs.declared.relaying.RelayFault.TheVariants.{Long, NoMemory as Wanting}
use Rattle.relay.specs.declared.relaying.RelayFault.{RelayFault}
use Rattle.tmds_word.specs.Column.{Column}
use Rattle.command_line.specs.declared.command.Command.TheVariants.{Relay}
use Rattle.capture_reading.specs.Blocks.{AreBefore}
use Rattle.capture_commands.specs.Endings.{Devices, Ends, RelayEnds, StreamEnds, faulty_end, marked_end, relay_ending}
use Rattle.capture_commands.specs.Notes.{alignment_note, capture_note, long_note}
use Rattle.capture_commands.specs.Outcome.{RunOutcome, Relays}
use Rattle.capture_commands.specs.Relays.{relay_status, whole_tap}
use Rattle.capture_commands.specs.Taken.{RelayStops}
use Rattle.capture_commands.proofs.RelayHeard.{IsRelayedSoFar}
use Rattle.capture_commands.proofs.Taken.{Reported, broken_stops, few_of, passes_limit, refused_stops}
use Rattle.capture_commands.specs.declared.ending.Ending.{Ending}
use Rattle.capture_commands.specs.declared.ending.Ending.TheVariants.{Done, Faulty, Usage, Listing, Raster, Capture, Place, Frames, TooLong, ReadFailed, WriteFailed, NoMemory, Unaligned}

-- the capture was heard to its end, and what is relayed of it was written, whole or in part

record IsHeardWhole (fed : Fed) (events : List Event) (before after : Devices) : Type 0 where
  columns : ℕ
  captured : (bytes : List ℕ) → before.left ≡ Some bytes → IsCaptureOf fed.blue fed.green fed.red bytes
  ended : IsAtEnd after.left
  reported : IsAlignedReported fed.blue fed.green fed.red columns events
  few : columns_of (relayed events) ≤ COLUMN_LIMIT

abbrev sent_outcome : List Event → List ℕ → RunOutcome
sent_outcome events output = record { status = relay_status (faultless events); output = output; note = [] }

sends : (fed : Fed) (events : List Event) (before after : Devices) (columns : List Column) (bytes : List ℕ) → IsHeardWhole fed events before after → Spells (relayed events) columns → before.left ≡ Some bytes
    → Relays bytes (sent_outcome events (tapped_capture columns whole_tap))
sends fed events before after columns bytes h spelled reported =
    inl (fed.blue, fed.green, fed.red, h.columns, events, tapped_capture columns whole_tap, h.captured bytes reported, h.reported, record { columns = columns; few = h.few; spelled = spelled; output_is = refl }, refl)

known_status : (b : Bool) → Contains (0 ∷ 1 ∷ []) (relay_status b)
known_status true = (0, omega arith, refl)
known_status false = (1, omega arith, refl)

sent_ends : (fed : Fed) (events : List Event) (e : Ending) (before after : Devices) → IsHeardWhole fed events before after
    → RelayEnds events e before.held after.held before.output_faults after.output_faults → Ends Relay e before after
sent_ends fed events Done before after h is = (
  h.ended,
  λ bytes reported. record {
    outcome = sent_outcome events (tapped_capture is.1.columns whole_tap);
    does = sends fed events before after is.1.columns bytes h is.1.spelled reported;
    status = ap relay_status is.0;
    note = refl;
    written = is.1.written;
  },
)
sent_ends fed events Faulty before after h is = (
  h.ended,
  λ bytes reported. record {
    outcome = sent_outcome events (tapped_capture is.1.columns whole_tap);
    does = sends fed events before after is.1.columns bytes h is.1.spelled reported;
    status = ap relay_status is.0;
    note = refl;
    written = is.1.written;
  },
)
sent_ends fed events WriteFailed before after h is = (
  is.0,
  λ bytes reported. record {
    outcome = sent_outcome events (tapped_capture is.1.columns whole_tap);
    gone = is.1.gone;
    does = sends fed events before after is.1.columns bytes h is.1.spelled reported;
    status = known_status (faultless events);
    missing = is.1.missing;
    written = is.1.written;
  },
)
sent_ends fed events NoMemory before after h is = (is, λ on. absurd on)
sent_ends fed events Usage before after h is = absurd is
sent_ends fed events (Listing fault) before after h is = absurd is
sent_ends fed events (Raster fault) before after h is = absurd is
sent_ends fed events (Capture fault) before after h is = absurd is
sent_ends fed events (Place i) before after h is = absurd is
sent_ends fed events (Frames fault) before after h is = absurd is
sent_ends fed events TooLong before after h is = absurd is
sent_ends fed events ReadFailed before after h is = absurd is
sent_ends fed events Unaligned before after h is = absurd is

pub heard_sent : (fed : Fed) (outcome : Outcome) (events : List Event) (relay : RelayValue) (e : Ending) (before after : Devices) → AreReported fed.blue fed.green fed.red outcome events → outcome.aligned ≡ true
    → ((bytes : List ℕ) → before.left ≡ Some bytes → IsCaptureOf fed.blue fed.green fed.red bytes) → IsAtEnd after.left → RelayRepresents relay events
    → RelayEnds events e before.held after.held before.output_faults after.output_faults → Ends Relay e before after
heard_sent fed outcome events relay e before after reported is captured ended stands ends =
    sent_ends fed events e before after (record {
      columns = outcome.columns;
      captured = captured;
      ended = ended;
      reported = subst (λ b. reported_by b fed.blue fed.green fed.red outcome.columns events) is reported;
      few = few_of relay events stands;
    }) ends

-- lanes that are aligned nowhere
pub nowhere_sent : (fed : Fed) (outcome : Outcome) (events : List Event) (before after : Devices) → AreReported fed.blue fed.green fed.red outcome events → outcome.aligned ≡ false
    → ((bytes : List ℕ) → before.left ≡ Some bytes → IsCaptureOf fed.blue fed.green fed.red bytes) → IsAtEnd after.left → Keeps before.held after.held → Ends Relay Unaligned before after
nowhere_sent fed outcome events before after reported not captured ended kept = (
  ended,
  kept,
  λ bytes is. record {
    outcome = record { status = 7; output = []; note = alignment_note };
    does = inr (inl (fed.blue, fed.green, fed.red, outcome.columns, events, captured bytes is, subst (λ b. reported_by b fed.blue fed.green fed.red outcome.columns events) not reported, refl));
    status = refl;
    note = refl;
    written = nothing_written before.held after.held kept;
  },
)

-- bytes that stop being a capture
pub refused_sent : (fault : CaptureFault) (first now : RelayValue) (before after : Devices) → RelayRepresents first [] → Keeps before.held after.held
    → ((bytes : List ℕ) → before.left ≡ Some bytes → IsFault bytes fault × ((fed : Fed) × AreBefore bytes (place_of fault) fed × IsRelayedSoFar fed first now))
    → Ends Relay (Capture fault) before after
refused_sent fault first now before after fresh kept bad = (
  λ last. kept,
  λ bytes reported. record {
    outcome = record { status = 3; output = []; note = capture_note fault };
    does = inr (inr (inr (fault, refused_stops fault first now before.left after.left fresh bad bytes reported, refl)));
    status = refl;
    note = refl;
    written = nothing_written before.held after.held kept;
  },
)

-- a relay that failed
troubled : (before after : Devices) (trouble : Option RelayFault) → Keeps before.held after.held → RelayStops (relay_ending trouble) before.left after.left → Ends Relay (relay_ending trouble) before after
troubled before after (Some Long) kept stops = (
  kept,
  λ bytes reported. record {
    outcome = record { status = 3; output = []; note = long_note };
    does = inr (inr (inl (passes_limit before.left after.left bytes reported stops, refl)));
    status = refl;
    note = refl;
    written = nothing_written before.held after.held kept;
  },
)
troubled before after (Some Wanting) kept stops = (kept, λ on. absurd on)
troubled before after None kept stops = (kept, λ on. absurd on)

pub broken_sent : (before after : Devices) (first last : RelayValue) (fed now : Fed) (events : List Event) (read : List ℕ) → RelayRepresents first [] → first.trouble ≡ None → Keeps before.held after.held → Consumes before.left after.left read
    → Reported after.left fed now events read first last → Ends Relay (relay_ending last.trouble) before after
broken_sent before after first last fed now events read fresh none kept took reported =
    troubled before after last.trouble kept (broken_stops before.left after.left first last fed now events read fresh none took reported)

-- a stream of what is relayed was written

faulty_ends : (events : List Event) (ps : List Period) (e : Ending) (old new : Option (List ℕ)) (before after : ℕ) → ps ≡ relayed events → faultless events ≡ false → StreamEnds Spells whole_tap ps e old new before after
    → RelayEnds events (faulty_end e) old new before after
faulty_ends events ps e old new before after h k l = grind arith

not_of : (b : Bool) → true ≡ not b → b ≡ false
not_of b h = grind arith

yes_of : (b : Bool) → false ≡ not b → b ≡ true
yes_of b h = grind arith

pub marked_ends : (faulty : Bool) (events : List Event) (ps : List Period) (e : Ending) (old new : Option (List ℕ)) (before after : ℕ) → ps ≡ relayed events → faulty ≡ not (faultless events)
    → StreamEnds Spells whole_tap ps e old new before after → RelayEnds events (marked_end faulty e) old new before after
marked_ends faulty events ps e old new before after h k l = grind (arith, faulty_ends, not_of, yes_of)
