-- What `relay` wrote of its own output it writes again; and a clean capture but for bit 3 of lane 0 in packet columns.
use Rattle.std.proofs.Common.{◌≡◌, ℕ, Bool, List, [], ◌∷◌, drop, refl, sym, ◌∙◌, subst, arith, length-drop}
use Rattle.std.specs.Prelude.{Option, Some}
use Rattle.std.specs.Io.KnownBytes.{Appends}
use Rattle.tmds_word.specs.Column.{Column}
use Rattle.capture_file.specs.Taps.{tapped_capture}
use Rattle.lane_deskew.specs.Aligned.{aligned_columns}
use Rattle.island_pack.specs.Conforming.{IsConforming, conforms}
use Rattle.island_pack.specs.Periods.{ControlRun, Period, control, video, island, values_of}
use Rattle.island_pack.specs.Runs.{longest}
use Rattle.island_pack.proofs.Runs.{values_longest}
use Rattle.period_grammar.specs.Events.{Event}
use Rattle.relay.specs.Own.{RelayedAgain, WholeRelayed, cut_first}
use Rattle.relay.specs.Relayed.{relayed}
use Rattle.relay.proofs.Conforming.{relayed_conforms}
use Rattle.relay.proofs.OneSpelling.{one_spelling, free_spelling_agrees}
use Rattle.command_line.specs.Commands.{IsCommand}
use Rattle.command_line.specs.declared.command.Command.TheVariants.{Relay}
use Rattle.capture_commands.specs.Endings.{Devices, RunEnds, Unless, status_of}
use Rattle.hdmi_cli.specs.Exact.{IsAlignedCapture}
use Rattle.capture_commands.specs.Outcome.{RunOutcome, Relays}
use Rattle.hdmi_cli.specs.RelayClauses.{IsCleanToEnd, IsPassedOn, past_twelve}
use Rattle.hdmi_cli.specs.RelaySettles.{IsWritten, IsWrittenButBit3}
use Rattle.capture_commands.specs.Relays.{IsRelayed, whole_tap}
use Rattle.capture_commands.specs.declared.ending.Ending.{Ending}
use Rattle.hdmi_cli.proofs.Headline.{run_ended}
use Rattle.hdmi_cli.proofs.RelayAgain.{comes_back, stays_nowhere}
use Rattle.hdmi_cli.proofs.RelayClean.{relay_passes}

-- What was relayed is preserved with its first control period cut to its last twelve columns.

record Back (runs : List ControlRun) (ps : List Period) (o : RunOutcome) : Type 0 where
  status_is : o.status ≡ 0
  events : List Event
  same : relayed events ≡ cut_first (past_twelve runs) (control runs ∷ ps)
  relayed_is : IsRelayed events o.output

back : RelayedAgain → (events : List Event) (text : List ℕ) (runs : List ControlRun) (q : Period) (ps : List Period) (o : RunOutcome)
    → relayed events ≡ control runs ∷ (q ∷ ps) → IsRelayed events text → Relays text o → Back runs (q ∷ ps) o
back law events text runs q ps o are sent does =
    let own : Relays (tapped_capture sent.columns whole_tap) o = subst (λ (bytes : List ℕ). Relays bytes o) sent.output_is does in
    let made = comes_back law events runs q ps sent.columns o o.status (Some []) (Some o.output) are sent.few sent.spelled refl refl own in
    record {
      status_is = made.status_is;
      events = made.events;
      same = made.same;
      relayed_is = subst (λ (out : List ℕ). IsRelayed made.events out) (sym made.written) made.relayed_is;
    }

-- Twelve columns are not cut again.

cut_again : (runs : List ControlRun) (ps : List Period)
    → cut_first (past_twelve (longest (drop (past_twelve runs) (values_of runs)))) (cut_first (past_twelve runs) (control runs ∷ ps)) ≡ cut_first (past_twelve runs) (control runs ∷ ps)
unfolding cut_first
cut_again runs ps = grind (arith, values_longest, length-drop)

cut_is : (runs : List ControlRun) (ps : List Period) → cut_first (past_twelve runs) (control runs ∷ ps) ≡ control (longest (drop (past_twelve runs) (values_of runs))) ∷ ps
unfolding cut_first
cut_is runs ps = refl

-- So the third is the second.

third_is : RelayedAgain → (runs : List ControlRun) (q : Period) (ps : List Period) (second third : RunOutcome) → Back runs (q ∷ ps) second → Relays second.output third
    → (third.status ≡ 0) × (third.output ≡ second.output)
third_is law runs q ps second third b does =
    let cut = longest (drop (past_twelve runs) (values_of runs)) in
    let is = cut_is runs (q ∷ ps) in
    let c = back law b.events second.output cut q ps third (b.same ∙ is) b.relayed_is does in
    grind (arith, cut_again, one_spelling)

by_periods : RelayedAgain → (events : List Event) (text : List ℕ) (ps : List Period) (second third : RunOutcome) → IsConforming ps → relayed events ≡ ps → IsRelayed events text
    → Relays text second → second.status ≡ 0 → Relays second.output third → (third.status ≡ 0) × (third.output ≡ second.output)
unfolding conforms
by_periods law events text [] second third good are sent does zero next = absurd cc
by_periods law events text (control runs ∷ []) second third good are sent does zero next =
    let own : Relays (tapped_capture sent.columns whole_tap) second = subst (λ (bytes : List ℕ). Relays bytes second) sent.output_is does in
    let none = stays_nowhere events runs sent.columns second second.status (Some []) (Some second.output) are sent.few sent.spelled refl refl own in
    let seven = none.0 in
    absurd (omega (arith, seven, zero))
by_periods law events text (control runs ∷ (q ∷ ps)) second third good are sent does zero next =
    third_is law runs q ps second third (back law events text runs q ps second are sent does) next
by_periods law events text (video bytes ∷ ps) second third good are sent does zero next = absurd cc
by_periods law events text (island x ∷ ps) second third good are sent does zero next = absurd cc

pub relay_settles : RelayedAgain → (words : List (List ℕ)) (ending : Ending) (before after : Devices) (status : ℕ) → RunEnds words ending before after → status ≡ status_of ending → IsCommand words Relay
    → (events : List Event) (text : List ℕ) → IsRelayed events text → (second : RunOutcome) → Relays text second → second.status ≡ 0 → before.left ≡ Some second.output
    → Unless (IsWritten second.output) status before after
relay_settles law words ending before after status ends is named events text sent second does zero left =
    run_ended (IsWritten second.output) Relay words ending before after status ends is named (λ answers.
    let answer = answers second.output left in
    let same = by_periods law events text (relayed events) second answer.outcome (relayed_conforms events) refl sent does zero answer.does in
    (sym answer.status ∙ same.0, subst (λ (out : List ℕ). Appends before.held after.held out) same.1 answer.written))

-- A clean capture.

agreed : (cs : List Column) (status : ℕ) (old new : Option (List ℕ)) → IsPassedOn cs status old new → IsWrittenButBit3 cs status old new
agreed cs status old new h = grind (arith, free_spelling_agrees)

in_each : (P Q : ℕ → Option (List ℕ) → Option (List ℕ) → Type 0) (status : ℕ) (before after : Devices) → (P status before.held after.held → Q status before.held after.held)
    → Unless P status before after → Unless Q status before after
in_each P Q status before after h k = grind arith

pub relay_agrees : WholeRelayed → (words : List (List ℕ)) (ending : Ending) (before after : Devices) (status : ℕ) → RunEnds words ending before after → status ≡ status_of ending → IsCommand words Relay
    → (blue green red : List Bool) (d e f : ℕ) (bytes : List ℕ) → IsAlignedCapture blue green red d e f bytes → IsCleanToEnd (aligned_columns blue green red d e f) → before.left ≡ Some bytes
    → Unless (IsWrittenButBit3 (aligned_columns blue green red d e f)) status before after
relay_agrees law words ending before after status ends is named blue green red d e f bytes captured clean left =
    let cs = aligned_columns blue green red d e f in
    in_each (IsPassedOn cs) (IsWrittenButBit3 cs) status before after (agreed cs status before.held after.held)
    (relay_passes law words ending before after status ends is named blue green red d e f bytes captured clean left)
