-- What `check` says of a capture whose lanes have a first full alignment, from what a run says of its outcome.
use Rattle.std.proofs.Common.{◌≡◌, ◌⊎◌, ℕ, Bool, List, [], ◌∷◌, refl, sym, ◌∙◌, subst, inl, inr, arith}
use Rattle.std.specs.Prelude.{Option, Some, Contains}
use Rattle.std.specs.Io.KnownBytes.{Appends}
use Rattle.outside_io.specs.Causes.{Rose}
use Rattle.tmds_word.specs.Column.{Column}
use Rattle.lane_deskew.specs.Triples.{IsFirst}
use Rattle.lane_deskew.specs.Aligned.{aligned_columns}
use Rattle.lane_deskew.proofs.First.{one_first}
use Rattle.period_grammar.specs.Events.{Event}
use Rattle.period_grammar.specs.Heard.{heard}
use Rattle.link_sink.specs.Alignment.{IsAlignedReported}
use Rattle.link_sink.specs.Grammar.{link_grammar}
use Rattle.listing_writer.specs.Texts.{fault_lines}
use Rattle.listing_writer.specs.Checks.{check_text}
use Rattle.listing_laws.proofs.Exact.{count_is_exact, verdict_is_exact}
use Rattle.command_line.specs.Commands.{IsCommand}
use Rattle.capture_commands.specs.Outcome.{RunOutcome, ListsLanes, ListsCapture, Does, IsOutcome, status_with}
use Rattle.capture_commands.specs.Endings.{Devices}
use Rattle.capture_commands.specs.Listings.{check_listing}
use Rattle.hdmi_cli.specs.Exact.{IsAlignedCapture, IsJudged}
use Rattle.command_line.specs.declared.command.Command.{Command}
use Rattle.command_line.specs.declared.command.Command.TheVariants.{Check}
use Rattle.command_line.proofs.OneCommand.{command_once}
use Rattle.hdmi_cli.proofs.Ends.{Says}
use Rattle.capture_file.specs.Laws.{AreSame}
use Rattle.capture_file.proofs.OneCapture.{one_capture, no_fault}

check_does : (words : List (List ℕ)) (bytes : List ℕ) (o : RunOutcome) → IsCommand words Check → IsOutcome words bytes o → ListsCapture link_grammar check_listing bytes o
check_does words bytes o named (inl (command, other, does)) = subst (λ (c : Command). Does c bytes o) (command_once words command Check other named) does
check_does words bytes o named (inr (none, is)) = absurd (none Check named)

-- The outcome of aligned lanes.

record IsCheckOf (cs : List Column) (o : RunOutcome) : Type 0 where
  status : o.status ≡ status_with (fault_lines (heard cs))
  output : o.output ≡ check_text (heard cs)

reported_check : (blue green red : List Bool) (d e f columns : ℕ) (events : List Event) (o : RunOutcome) → IsFirst blue green red d e f → IsAlignedReported blue green red columns events
    → o ≡ record { status = status_with (fault_lines events); output = check_text events; note = [] } → IsCheckOf (aligned_columns blue green red d e f) o
reported_check blue green red d e f columns events o first reported is =
    let one = one_first blue green red reported.blue reported.green reported.red d e f reported.first first in
    grind arith

lanes_check : (blue green red : List Bool) (d e f : ℕ) (o : RunOutcome) → IsFirst blue green red d e f → ListsLanes link_grammar check_listing blue green red o → IsCheckOf (aligned_columns blue green red d e f) o
lanes_check blue green red d e f o first (inl (columns, events, reported, is)) = reported_check blue green red d e f columns events o first reported is
lanes_check blue green red d e f o first (inr (columns, events, nowhere, is)) = absurd (nowhere.nowhere d e f first.triple)

same_lanes : (x y z u v w : List Bool) (o : RunOutcome) → AreSame x y z u v w → ListsLanes link_grammar check_listing u v w o → ListsLanes link_grammar check_listing x y z o
same_lanes x y z u v w o same h =
    subst (λ a. ListsLanes link_grammar check_listing a y z o) (sym same.blue)
    (subst (λ b. ListsLanes link_grammar check_listing u b z o) (sym same.green) (subst (λ c. ListsLanes link_grammar check_listing u v c o) (sym same.red) h))

capture_check : (blue green red : List Bool) (d e f : ℕ) (bytes : List ℕ) (o : RunOutcome) → IsAlignedCapture blue green red d e f bytes → ListsCapture link_grammar check_listing bytes o
    → IsCheckOf (aligned_columns blue green red d e f) o
capture_check blue green red d e f bytes o c (inl (x, y, z, is, lists)) =
    lanes_check blue green red d e f o c.first (same_lanes blue green red x y z o (one_capture blue green red x y z bytes c.captured is) lists)
capture_check blue green red d e f bytes o c (inr (fault, is)) =
    absurd (no_fault bytes fault (record { blue = blue; green = green; red = red; holds = c.captured }) is.is)

-- What it says.

judged : (cs : List Column) (n status : ℕ) (old new : Option (List ℕ)) → fault_lines (heard cs) ≡ n → status ≡ status_with n → Appends old new (check_text (heard cs)) → IsJudged cs status old new
judged cs n status old new h k l = grind (arith, count_is_exact, verdict_is_exact)

done_status : (n status : ℕ) → status ≡ status_with n → Contains (0 ∷ 1 ∷ 3 ∷ 7 ∷ []) status
done_status n status h = grind arith

-- where no device failed and memory was had, columns are judged
abbrev JudgedUnless : List Column → ℕ → Devices → Devices → Type 0
JudgedUnless cs status before after =
    Rose before.input_faults after.input_faults ⊎ Rose before.output_faults after.output_faults ⊎ (status ≡ 6) ⊎ IsJudged cs status before.held after.held

by_outcome : (words : List (List ℕ)) (before after : Devices) (status : ℕ) (note : List ℕ) → Says words before after status note → IsCommand words Check
    → (blue green red : List Bool) (d e f : ℕ) (bytes : List ℕ) → IsAlignedCapture blue green red d e f bytes → before.left ≡ Some bytes
    → Rose before.input_faults after.input_faults ⊎ Rose before.output_faults after.output_faults ⊎ (status ≡ 6) ⊎ ((o : RunOutcome) × IsOutcome words bytes o × (status ≡ o.status))
    → JudgedUnless (aligned_columns blue green red d e f) status before after
by_outcome words before after status note says named blue green red d e f bytes c left (inl rose) = inl rose
by_outcome words before after status note says named blue green red d e f bytes c left (inr (inl rose)) = inr (inl rose)
by_outcome words before after status note says named blue green red d e f bytes c left (inr (inr (inl none))) = inr (inr (inl none))
by_outcome words before after status note says named blue green red d e f bytes c left (inr (inr (inr (o, is, same)))) =
    let cs = aligned_columns blue green red d e f in
    let n = fault_lines (heard cs) in
    let status_is = same ∙ (capture_check blue green red d e f bytes o c (check_does words bytes o named is)).status in
    let done = says.done (done_status n status status_is) bytes left in
    let output = (capture_check blue green red d e f bytes done.0 c (check_does words bytes done.0 named done.1)).output in
    inr (inr (inr (judged cs n status before.held after.held refl status_is (subst (λ text. Appends before.held after.held text) output done.3))))

pub check_is_exact : (words : List (List ℕ)) (before after : Devices) (status : ℕ) (note : List ℕ) → Says words before after status note → IsCommand words Check
    → (blue green red : List Bool) (d e f : ℕ) (bytes : List ℕ) → IsAlignedCapture blue green red d e f bytes → before.left ≡ Some bytes
    → JudgedUnless (aligned_columns blue green red d e f) status before after
check_is_exact words before after status note says named blue green red d e f bytes c left =
    by_outcome words before after status note says named blue green red d e f bytes c left (says.outcome bytes left)
