-- What `relay` makes of a capture that `check` calls clean, and whose aligned columns end in a control period: the same columns.
use Rattle.std.proofs.Common.{◌≡◌, ◌⊎◌, ℕ, Bool, List, refl, arith}
use Rattle.std.specs.Prelude.{Option, Some}
use Rattle.std.specs.Io.KnownBytes.{Appends}
use Rattle.tmds_word.specs.Column.{Column}
use Rattle.lane_deskew.specs.Aligned.{aligned_columns}
use Rattle.period_grammar.specs.Exact.{IsClean}
use Rattle.period_grammar.specs.Heard.{heard}
use Rattle.link_laws.proofs.exact.Arrivals.{whole_heard}
use Rattle.link_laws.proofs.exact.Law.{check_is_exact}
use Rattle.link_laws.proofs.exact.Wholes.{clean_is_whole}
use Rattle.relay.specs.Own.{WholeRelayed}
use Rattle.relay.proofs.Conforming.{relayed_conforms}
use Rattle.relay.proofs.Own.{spelled_long}
use Rattle.command_line.specs.Commands.{IsCommand}
use Rattle.command_line.specs.declared.command.Command.TheVariants.{Relay}
use Rattle.capture_commands.specs.Endings.{Devices, RunEnds, Unless, status_of}
use Rattle.hdmi_cli.specs.Exact.{IsAlignedCapture}
use Rattle.capture_commands.specs.Outcome.{RunOutcome}
use Rattle.hdmi_cli.specs.RelayClauses.{IsCleanToEnd, IsPassedOn}
use Rattle.capture_commands.specs.declared.ending.Ending.{Ending}
use Rattle.hdmi_cli.proofs.Headline.{run_ended}
use Rattle.hdmi_cli.proofs.RelayHeadline.{IsLongOf, IsRelayOf, capture_relay, keeps_of}

passed_of : WholeRelayed → (cs : List Column) (o : RunOutcome) (status : ℕ) (old new : Option (List ℕ)) → IsCleanToEnd cs → o.status ≡ status → Appends old new o.output
    → IsLongOf (heard cs) o ⊎ IsRelayOf (heard cs) o → IsPassedOn cs status old new
passed_of law cs o status old new clean is written made =
    let clean_columns : IsClean cs = (check_is_exact cs).1 clean.clean in
    let whole = clean_is_whole cs clean_columns clean.ends in
    let spelled = law cs whole (whole_heard cs whole) in
    grind (arith, spelled_long, keeps_of, relayed_conforms)

pub relay_passes : WholeRelayed → (words : List (List ℕ)) (ending : Ending) (before after : Devices) (status : ℕ) → RunEnds words ending before after → status ≡ status_of ending → IsCommand words Relay
    → (blue green red : List Bool) (d e f : ℕ) (bytes : List ℕ) → IsAlignedCapture blue green red d e f bytes → IsCleanToEnd (aligned_columns blue green red d e f) → before.left ≡ Some bytes
    → Unless (IsPassedOn (aligned_columns blue green red d e f)) status before after
relay_passes law words ending before after status ends is named blue green red d e f bytes captured clean left =
    let cs = aligned_columns blue green red d e f in
    run_ended (IsPassedOn cs) Relay words ending before after status ends is named (λ answers.
    let answer = answers bytes left in
    passed_of law cs answer.outcome (status_of ending) before.held after.held clean answer.status answer.written
    (capture_relay (heard cs) blue green red d e f bytes answer.outcome captured.captured captured.first refl answer.does))
