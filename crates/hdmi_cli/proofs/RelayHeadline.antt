-- What `relay` makes of a tapped stream: what was received of the periods that were sent, from the first
-- full alignment on.
use Rattle.std.proofs.Common.{arith, ◌≡◌, ◌<◌, ◌≤◌, ◌⊎◌, ℕ, ◌+◌, Bool, List, [], length, ap, sym, ◌∙◌, subst, inl, inr}
use Rattle.std.specs.Prelude.{Option, Some}
use Rattle.std.proofs.lemmas.List.{append-nil}
use Rattle.std.specs.Io.KnownBytes.{Appends, Keeps}
use Rattle.tmds_word.specs.Column.{Column}
use Rattle.capture_file.specs.Captures.{IsCaptureOf}
use Rattle.capture_file.specs.Laws.{AreSame}
use Rattle.capture_file.specs.Taps.{tapped_capture}
use Rattle.capture_file.proofs.OneCapture.{one_capture, no_fault}
use Rattle.lane_deskew.specs.Triples.{IsFirst, IsTriple}
use Rattle.lane_deskew.specs.Aligned.{aligned_columns}
use Rattle.island_pack.specs.Periods.{columns_of}
use Rattle.island_pack.specs.Spelling.{Spells}
use Rattle.island_pack.specs.declared.ranges.TheConstants.{COLUMN_LIMIT}
use Rattle.source_end.proofs.Streams.{Spells-length}
use Rattle.period_grammar.specs.Exact.{faultless}
use Rattle.period_grammar.specs.Heard.{heard}
use Rattle.period_grammar.specs.Events.{Event}
use Rattle.link_laws.specs.Account.{account}
use Rattle.link_sink.specs.Alignment.{IsAlignedReported, IsNowhereReported}
use Rattle.link_laws.specs.Laws.{IsAccounted, BeginColumn}
use Rattle.relay.specs.Received.{RelayedAccount}
use Rattle.relay.specs.Relayed.{relayed}
use Rattle.command_line.specs.Commands.{IsCommand}
use Rattle.command_line.specs.declared.command.Command.TheVariants.{Relay}
use Rattle.capture_commands.specs.Endings.{Devices, Answers, RunEnds, Unless, status_of}
use Rattle.hdmi_cli.specs.Headline.{TappedStream, IsTapped, IsFirstOf, Aligns, FromFirst, aligned_of}
use Rattle.capture_commands.specs.Outcome.{RunOutcome, Relays}
use Rattle.hdmi_cli.specs.RelayClauses.{IsSentWithin, sent_on}
use Rattle.capture_commands.specs.Relays.{IsRelayed, relay_status, whole_tap}
use Rattle.capture_commands.specs.declared.ending.Ending.{Ending}
use Rattle.hdmi_cli.proofs.Headline.{aligned_same, first_accounted, run_ended}
use Rattle.hdmi_cli.proofs.RelayLimit.{passes_nowhere, passes_whole, same_reported}

-- an outcome is the capture of what is relayed of some things, which is within the limit
pub record IsRelayOf (all : List Event) (o : RunOutcome) : Type 0 where
  pub few : columns_of (relayed all) ≤ COLUMN_LIMIT
  pub columns : List Column
  pub spelled : Spells (relayed all) columns
  pub status : o.status ≡ relay_status (faultless all)
  pub output : o.output ≡ tapped_capture columns whole_tap

-- or what is relayed of them is past the limit
pub record IsLongOf (all : List Event) (o : RunOutcome) : Type 0 where
  pub passes : COLUMN_LIMIT < columns_of (relayed all)
  pub status : o.status ≡ 3
  pub output : o.output ≡ []

pub keeps_of : (old new : Option (List ℕ)) → Appends old new [] → Keeps old new
keeps_of old new h = grind (arith, append-nil)

same_nowhere : (x y z u v w : List Bool) (columns : ℕ) (events : List Event) → AreSame x y z u v w → IsNowhereReported u v w columns events → IsNowhereReported x y z columns events
same_nowhere x y z u v w columns events same h =
    subst (λ a. IsNowhereReported a y z columns events) (sym same.blue) (subst (λ b. IsNowhereReported u b z columns events) (sym same.green) (subst (λ c. IsNowhereReported u v c columns events) (sym same.red) h))

reported_relay : (all : List Event) (blue green red : List Bool) (d e f columns : ℕ) (events : List Event) (output : List ℕ) (o : RunOutcome) → IsFirst blue green red d e f → heard (aligned_columns blue green red d e f) ≡ all
    → IsAlignedReported blue green red columns events → IsRelayed events output → o ≡ record { status = relay_status (faultless events); output = output; note = [] } → IsRelayOf all o
reported_relay all blue green red d e f columns events output o first whole reported r is = grind (arith, aligned_same)

-- what is made of a capture with a first full alignment
pub capture_relay : (all : List Event) (blue green red : List Bool) (d e f : ℕ) (bytes : List ℕ) (o : RunOutcome) → IsCaptureOf blue green red bytes → IsFirst blue green red d e f → heard (aligned_columns blue green red d e f) ≡ all
    → Relays bytes o → IsLongOf all o ⊎ IsRelayOf all o
capture_relay all blue green red d e f bytes o captured first whole (inl (x, y, z, columns, events, output, is, reported, relays, same)) =
    inr (reported_relay all blue green red d e f columns events output o first whole (same_reported blue green red x y z columns events (one_capture blue green red x y z bytes captured is) reported) relays same)
capture_relay all blue green red d e f bytes o captured first whole (inr (inl (x, y, z, columns, events, is, nowhere, same))) =
    absurd ((same_nowhere blue green red x y z columns events (one_capture blue green red x y z bytes captured is) nowhere).nowhere d e f first.triple)
capture_relay all blue green red d e f bytes o captured first whole (inr (inr (inl (passes, same)))) = inl (record {
  passes = subst (λ (ts : List Event). COLUMN_LIMIT < columns_of (relayed ts)) whole (passes_whole blue green red d e f bytes captured first passes);
  status = ap (λ (p : RunOutcome). p.status) same;
  output = ap (λ (p : RunOutcome). p.output) same;
})
capture_relay all blue green red d e f bytes o captured first whole (inr (inr (inr (fault, before, same)))) =
    absurd (no_fault bytes fault (record { blue = blue; green = green; red = red; holds = captured }) before.is)

-- and of one that is aligned nowhere
pub nowhere_relay : (blue green red : List Bool) (bytes : List ℕ) (o : RunOutcome) → IsCaptureOf blue green red bytes → ((d e f : ℕ) → IsTriple blue green red d e f → ⊥) → Relays bytes o
    → (o.status ≡ 7) × (o.output ≡ [])
nowhere_relay blue green red bytes o captured none (inl (x, y, z, columns, events, output, is, reported, relays, same)) =
    let own = same_reported blue green red x y z columns events (one_capture blue green red x y z bytes captured is) reported in
    absurd (none own.blue own.green own.red own.first.triple)
nowhere_relay blue green red bytes o captured none (inr (inl (x, y, z, columns, events, is, nowhere, same))) = (ap (λ (p : RunOutcome). p.status) same, ap (λ (p : RunOutcome). p.output) same)
nowhere_relay blue green red bytes o captured none (inr (inr (inl (passes, same)))) = absurd (passes_nowhere blue green red bytes captured none passes)
nowhere_relay blue green red bytes o captured none (inr (inr (inr (fault, before, same)))) =
    absurd (no_fault bytes fault (record { blue = blue; green = green; red = red; holds = captured }) before.is)

sent_of : (t : TappedStream) (a d e f : ℕ) (ending : Ending) (before after : Devices) (o : RunOutcome) → IsAccounted t.periods t.sent t.received (aligned_of t d e f) a → BeginColumn t.offset t.skews (a + 12) d e f
    → relayed (account t.periods t.sent t.received a (length (aligned_of t d e f))) ≡ sent_on t d e f a
    → o.status ≡ status_of ending → Appends before.held after.held o.output
    → IsLongOf (account t.periods t.sent t.received a (length (aligned_of t d e f))) o ⊎ IsRelayOf (account t.periods t.sent t.received a (length (aligned_of t d e f))) o
    → IsSentWithin t d e f a (status_of ending) before.held after.held
sent_of t a d e f ending before after o h k l m p q = grind (arith, keeps_of)

sent_within : RelayedAccount → (t : TappedStream) (a d e f : ℕ) (ending : Ending) (before after : Devices) → IsTapped t → IsFirstOf t d e f → IsAccounted t.periods t.sent t.received (aligned_of t d e f) a
    → BeginColumn t.offset t.skews (a + 12) d e f → before.left ≡ Some t.bytes → Answers Relay ending before after
    → IsSentWithin t d e f a (status_of ending) before.held after.held
sent_within law t a d e f ending before after tapped first accounted begins left answers =
    let answer = answers t.bytes left in
    let many = length (aligned_of t d e f) in
    let all = account t.periods t.sent t.received a many in
    let long = Spells-length t.periods t.sent tapped.reception.spelled in
    let relayed_is = law t.periods t.sent t.received tapped.reception.conforming long (tapped.reception.sparse.same_length ∙ long) a many in
    sent_of t a d e f ending before after answer.outcome accounted begins relayed_is answer.status answer.written
    (capture_relay all t.blue t.green t.red d e f t.bytes answer.outcome tapped.captured first accounted.reported answer.does)

pub relay_headlined : RelayedAccount → (words : List (List ℕ)) (ending : Ending) (before after : Devices) (status : ℕ) → RunEnds words ending before after → status ≡ status_of ending → IsCommand words Relay
    → (t : TappedStream) → IsTapped t → Aligns t → before.left ≡ Some t.bytes
    → Unless (λ s old new. FromFirst t (λ d e f a. IsSentWithin t d e f a s old new)) status before after
relay_headlined law words ending before after status ends is named t tapped aligns left =
    let first = first_accounted t tapped aligns in
    run_ended (λ s old new. FromFirst t (λ d e f a. IsSentWithin t d e f a s old new)) Relay words ending before after status ends is named
    (λ answers. (first.0, first.1, first.2, first.3, (first.4.0, first.4.1, sent_within law t first.4.0 first.0 first.1 first.2 ending before after tapped first.3 first.4.2.0 first.4.2.1 left answers)))
