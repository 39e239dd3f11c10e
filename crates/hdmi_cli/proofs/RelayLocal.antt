-- What `relay` writes of a capture of which anything may have been received after the alignment.
use Rattle.std.proofs.Common.{◌≡◌, ◌⊎◌, inl, inr, ℕ, ◌+◌, ◌-◌, ◌<◌, ◌≤◌, List, length, take, drop, refl, ap, sym, ◌∙◌, subst, arith, length-take, length-take-le, length-drop}
use Rattle.std.specs.Prelude.{Option, Some}
use Rattle.std.specs.Io.KnownBytes.{Appends}
use Rattle.tmds_word.specs.Column.{Column}
use Rattle.island_pack.specs.Periods.{Period, video, island, period_columns, columns_of}
use Rattle.period_grammar.specs.Events.{Event}
use Rattle.period_grammar.specs.Heard.{heard}
use Rattle.link_laws.specs.Local.{part_at, twelve_before}
use Rattle.link_laws.proofs.LocalLanes.{aligned_whatever_follows}
use Rattle.relay.specs.Local.{IsRelayedAfter, line_sent, island_sent, LineRelayed, IslandRelayed}
use Rattle.command_line.specs.Commands.{IsCommand}
use Rattle.command_line.specs.declared.command.Command.TheVariants.{Relay}
use Rattle.capture_commands.specs.Endings.{Devices, RunEnds, Unless, status_of}
use Rattle.hdmi_cli.specs.Headline.{TappedStream, AlignsBy, aligned_of}
use Rattle.capture_commands.specs.Listings.{link_listing}
use Rattle.capture_commands.specs.Listers.{after_link, last_link, link_is_text}
use Rattle.hdmi_cli.specs.Local.{IsTappedUntil, reported_to}
use Rattle.capture_commands.specs.Outcome.{RunOutcome}
use Rattle.hdmi_cli.specs.RelayLocal.{IsSentOnOf, IsTooLongOf, IsRelayedBy}
use Rattle.capture_commands.specs.declared.ending.Ending.{Ending}
use Rattle.hdmi_cli.proofs.Headline.{run_ended}
use Rattle.hdmi_cli.proofs.Local.{rows_stand}
use Rattle.hdmi_cli.proofs.RelayHeadline.{IsRelayOf, IsLongOf, keeps_of, capture_relay}

sent_of : (events : List Event) (o : RunOutcome) (status : ℕ) (old new : Option (List ℕ)) → o.status ≡ status → Appends old new o.output → IsLongOf events o ⊎ IsRelayOf events o
    → IsSentOnOf events status old new ⊎ IsTooLongOf events status old new
sent_of events o status old new same written (inl long) =
    inr (record { passes = long.passes; status_is = sym same ∙ long.status; unwritten = keeps_of old new (subst (Appends old new) long.output written) })
sent_of events o status old new same written (inr is) =
    inl (record { few = is.few; columns = is.columns; spelled = is.spelled; status_is = sym same ∙ is.status; written = subst (Appends old new) is.output written })

-- the columns of a period within the aligned ones are as many as it has
part_long : (p : Period) (j a m : ℕ) (cs : List Column) → j + period_columns p < a + m → a + m ≤ length cs → length (part_at j p cs) ≡ period_columns p
part_long p j a m cs past within = let l = length-drop j cs in length-take-le (period_columns p) (drop j cs) (omega arith)

within_received : (cs aligned : List Column) (a n : ℕ) → aligned ≡ take (length aligned) (drop a cs) → n < a + length aligned → a ≤ n → a + length aligned ≤ length cs
within_received cs aligned a n columns past late =
    let size = ap length columns in
    let l = length-take (length aligned) (drop a cs) in
    let k = length-drop a cs in
    omega arith

pub relayed_locally : LineRelayed → IslandRelayed → (words : List (List ℕ)) (ending : Ending) (before after : Devices) (status : ℕ) → RunEnds words ending before after → status ≡ status_of ending → IsCommand words Relay
    → (t : TappedStream) (until : ℕ) → IsTappedUntil t until → AlignsBy t until → before.left ≡ Some t.bytes → Unless (IsRelayedBy t until) status before after
relayed_locally line_law island_law words ending before after status ends is named t until tapped aligns left =
    let law = aligned_whatever_follows t.periods t.sent t.received until tapped.reception t.offset t.skews t.counts t.blue t.green t.red tapped.tap tapped.small aligns in
    let place = law.4 in
    let a = place.0 in
    let cs = aligned_of t law.0 law.1 law.2 in
    let rows = rows_stand link_listing after_link last_link link_is_text t until a cs tapped place.4 in
    let same = tapped.reception.same_length in
    run_ended (IsRelayedBy t until) Relay words ending before after status ends is named
    (λ answers.
    let answer = answers t.bytes left in
    let made = capture_relay (heard cs) t.blue t.green t.red law.0 law.1 law.2 t.bytes answer.outcome tapped.captured law.3 refl answer.does in (
      law.0,
      law.1,
      law.2,
      law.3,
      (
        a,
        place.2,
        record {
          ends = place.1;
          begins = place.3;
          columns = place.4;
          sent = sent_of (heard cs) answer.outcome (status_of ending) before.held after.held answer.status answer.written made;
          lines = λ front bytes back are good alone late past.
              let j = columns_of front in
              let p = video bytes in
              let row = rows front p back are good alone late past in
              let within = within_received t.received cs a (j + period_columns p) place.4 past (omega arith) in
              subst (λ ts. IsRelayedAfter (reported_to a j cs) ts (line_sent bytes (part_at j p t.sent) (part_at j p t.received))) (sym row.reported)
              (line_law bytes (part_at j p t.sent) (part_at j p t.received) good (part_long p j a (length cs) t.sent past (omega arith)) (part_long p j a (length cs) t.received past within)
              (j - a) (twelve_before j t.received) (reported_to a j cs) row.later);
          islands = λ front x back are good alone late past.
              let j = columns_of front in
              let p = island x in
              let row = rows front p back are good alone late past in
              let within = within_received t.received cs a (j + period_columns p) place.4 past (omega arith) in
              subst (λ ts. IsRelayedAfter (reported_to a j cs) ts (island_sent x (part_at j p t.sent) (part_at j p t.received))) (sym row.reported)
              (island_law x (part_at j p t.sent) (part_at j p t.received) good (part_long p j a (length cs) t.sent past (omega arith)) (part_long p j a (length cs) t.received past within)
              (j - a) (twelve_before j t.received) (reported_to a j cs) row.later);
        },
      ),
    ))
