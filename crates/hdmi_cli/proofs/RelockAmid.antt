-- `recover relock` and `recover content relock` after a control period that came whole, whatever is received around it: each period that stands alone has its row.
use Rattle.std.proofs.Common.{◌≡◌, ℕ, ◌+◌, ◌-◌, ◌*◌, ◌/◌, ◌<◌, ◌≤◌, List, [], ◌∷◌, ◌++◌, length, map, ap, ◌∙◌, sym, subst, append_assoc, arith, inl, inr}
use Rattle.std.specs.Prelude.{min, Some, Option}
use Rattle.std.specs.Io.KnownBytes.{Appends}
use Rattle.capture_file.specs.Captures.{layout}
use Rattle.capture_file.proofs.OneCapture.{one_capture, no_fault}
use Rattle.island_pack.specs.Periods.{columns_of, period_columns}
use Rattle.island_pack.specs.Spelling.{SpellsBy, freely}
use Rattle.period_grammar.specs.Events.{Event, event_of}
use Rattle.link_laws.specs.Literal.{period_placed}
use Rattle.link_laws.specs.Local.{part_at, twelve_before}
use Rattle.command_line.specs.Commands.{IsCommand}
use Rattle.command_line.specs.declared.command.Command.{Command}
use Rattle.track_sink.specs.Feds.{same_fed}
use Rattle.track_sink.specs.TrackEvents.{track_events_of}
use Rattle.track_sink.proofs.Following.{track_events_both}
use Rattle.relock_sink.specs.Refuting.{refuting_rule}
use Rattle.relock_laws.specs.WholeAmid.{HasAmidExample}
use Rattle.relock_laws.proofs.AmidExample.{amid_example}
use Rattle.relock_laws.proofs.WholeAmid.{settles_amid, rows_after}
use Rattle.capture_commands.specs.Endings.{Devices, RunEnds, Unless, status_of}
use Rattle.capture_commands.specs.Outcome.{Does, RunOutcome, TracksLanes, TracksCapture}
use Rattle.capture_commands.specs.TrackListings.{TrackListing}
use Rattle.capture_commands.specs.declared.ending.Ending.{Ending}
use Rattle.hdmi_cli.specs.RelockAgain.{AgainStream, columns_from}
use Rattle.hdmi_cli.specs.RelockAmid.{ComesWholeLocally, AreListedAlone, HasLocalWholeStream}
use Rattle.hdmi_cli.specs.RelockWhole.{columns_left}
use Rattle.hdmi_cli.proofs.Headline.{run_ended}
use Rattle.hdmi_cli.proofs.RelockAgain.{listed}
use Rattle.hdmi_cli.proofs.RelockWhole.{all_left}
use Rattle.hdmi_cli.proofs.TrackExamples.{captured}

rows_listed : (listing : TrackListing) (t : AgainStream) (j : ℕ) → ComesWholeLocally t j → (o : RunOutcome) (old new : Option (List ℕ)) → TracksLanes refuting_rule listing t.lanes o → Appends old new o.output
    → AreListedAlone listing t old new
rows_listed listing t j comes o old new tracks written =
    let law = settles_amid t.periods t.sent t.received t.offset t.skews t.counts t.tapped t.lanes t.before j t.a t.blue t.green t.red comes.comes in
    let start = law.0 in
    let p = law.2.0 in
    let q = law.2.1 in
    let r = law.2.2 in
    let settled = law.2.3 in
    let same = law.2.4 in
    let n = law.2.6.0 in
    let at = law.2.6.1 in
    let columns = columns_from t start p q r in
    let h = listed listing t.lanes start p q r law.1 settled.first law.2.5 o old new tracks written in
    let many = all_left t start p q r n settled same at in
    let reception = comes.comes.reception in
    record {
      events = h.track_events;
      written = h.written;
      count = n + 12;
      rows = λ front x back are between alone late past.
          let place = columns_of front in
          let row = rows_after front x back t.sent t.received columns n t.a between (subst (λ ps. SpellsBy freely ps t.sent) are reception.spelled) reception.same_length law.2.6.2 (omega arith) alone late (omega arith) in
          let counted : n + (place - t.a) ≡ n + 12 + (place - (t.a + 12)) = omega arith in
          let events : ℕ → List Event = λ i. map event_of (period_placed i (twelve_before place t.received) x (part_at place x t.sent) (part_at place x t.received)) ++ row.1 in
          record {
            first = h.first ++ track_events_of row.0;
            later = row.1;
            are =
                h.are ∙ ap (λ us. h.first ++ track_events_of us) (row.2 ∙ ap (λ (i : ℕ). row.0 ++ events i) counted) ∙ ap (λ us. h.first ++ us) (track_events_both row.0 (events (n + 12 + (place - (t.a + 12)))))
                ∙ sym (append_assoc h.first (track_events_of row.0) (track_events_of (events (n + 12 + (place - (t.a + 12))))));
          };
    }

of_bytes : (listing : TrackListing) (t : AgainStream) (j : ℕ) → ComesWholeLocally t j → (o : RunOutcome) (old new : Option (List ℕ)) → TracksCapture refuting_rule listing t.bytes o → Appends old new o.output
    → AreListedAlone listing t old new
of_bytes listing t j comes o old new (inl (fed, captured, lanes)) written =
    let same = one_capture t.lanes.blue t.lanes.green t.lanes.red fed.blue fed.green fed.red t.bytes comes.captured captured in
    rows_listed listing t j comes o old new (subst (λ x. TracksLanes refuting_rule listing x o) (sym (same_fed t.lanes fed same.blue same.green same.red)) lanes) written
of_bytes listing t j comes o old new (inr (fault, fed, track_events, faulty, before, reported, is)) written =
    absurd (no_fault t.bytes fault (record { blue = t.lanes.blue; green = t.lanes.green; red = t.lanes.red; holds = comes.captured }) faulty)

pub listed_alone : (listing : TrackListing) (this : Command) → ((bytes : List ℕ) (o : RunOutcome) → Does this bytes o → TracksCapture refuting_rule listing bytes o)
    → (words : List (List ℕ)) (ending : Ending) (before after : Devices) (status : ℕ) → RunEnds words ending before after → status ≡ status_of ending → IsCommand words this
    → (t : AgainStream) (j : ℕ) → ComesWholeLocally t j → before.left ≡ Some t.bytes → Unless (λ _ old new. AreListedAlone listing t old new) status before after
listed_alone listing this tracks words ending before after status ends is named t j comes left =
    run_ended (λ _ old new. AreListedAlone listing t old new) this words ending before after status ends is named (λ answers.
    let answer = answers t.bytes left in
    of_bytes listing t j comes answer.outcome before.held after.held (tracks t.bytes answer.outcome answer.does) answer.written)

-- The premises can be met.

-- the lanes have so many columns
many_columns : (b g r d e f k m : ℕ) → d + 10 * (k + 1) ≤ b + 10 * m → e + 10 * (k + 1) ≤ g + 10 * m → f + 10 * (k + 1) ≤ r + 10 * m
    → k < m + min ((b - d) / 10) (min ((g - e) / 10) ((r - f) / 10))
many_columns b g r d e f k m x y z = omega arith

pub local_whole_stream : HasLocalWholeStream
local_whole_stream = by amid_example
  where
    by : HasAmidExample → HasLocalWholeStream
    by (ps, sent, received, offset, skews, counts, x, lanes, before, j, a, d, e, f, is) =
        let few = is.few in
        let t : AgainStream = record {
          periods = ps;
          sent = sent;
          received = received;
          offset = offset;
          skews = skews;
          counts = counts;
          tapped = x;
          before = before;
          lanes = lanes;
          a = a;
          blue = d;
          green = e;
          red = f;
          bytes = layout 2 lanes.blue lanes.green lanes.red;
        } in (
          t,
          j,
          record {
            comes = record { comes = is.comes; captured = captured lanes.blue lanes.green lanes.red (omega arith) (omega arith) (omega arith) };
            front = is.front;
            alone = is.alone;
            back = is.back;
            are = is.are;
            between = is.between;
            stands = is.stands;
            late = is.late;
            within = many_columns (length lanes.blue) (length lanes.green) (length lanes.red) d e f (columns_of is.front + period_columns is.alone) (a + 12) is.blue_within is.green_within is.red_within;
            lost_before = is.lost_before;
            lost_after = is.lost_after;
          },
        )
