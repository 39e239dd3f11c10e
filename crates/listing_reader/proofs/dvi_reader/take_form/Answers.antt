use Rattle.std.proofs.Common.{◌≡◌, ap, subst, true, ◌∙◌}
use Rattle.hex.specs.Hex.{decode_of}
use Rattle.listing_reader.specs.declared.fault.ListCause.TheVariants.{Fault}
use Rattle.listing_reader.specs.declared.form.Form.{Form}
use Rattle.listing_reader.specs.DviReading.{dvi_line_cause}
use Rattle.listing_reader.specs.Forms.{control_line, video_by, end_line, fault_line}
use Rattle.listing_reader.specs.FormSeen.{IsForm, IsVideo}
use Rattle.listing_reader.proofs.DviSteps.{dvi_listing, run_refused, run_tells, video_tells, end_refused, step_closes, fault_wrong, other_wrong}
use Rattle.listing_reader.proofs.Steps.{takes_refused, step_wrong}
use Rattle.listing_reader.proofs.dvi_reader.take_form.Goals as goal

pub returns-in_err-run-in-Control : goal.returns-in_err-run-in-Control
returns-in_err-run-in-Control c = λ reported seen.
    let is : reported ≡ control_line c.in-Control.value c.in-Control.count = subst (λ (f : Form). IsForm f reported) c.in-Control.is seen in
    run_refused _ c.args.periods reported c.in-Control.value c.in-Control.count c.from_residual.result _ is c.in_err-run-in-Control.ensures.cause c.from_residual.ensures.1

pub returns-in_ok-run-in-Control : goal.returns-in_ok-run-in-Control
returns-in_ok-run-in-Control c = λ reported seen.
    let is : reported ≡ control_line c.in-Control.value c.in-Control.count = subst (λ (f : Form). IsForm f reported) c.in-Control.is seen in
    run_tells _ c.args.periods c.in_ok-run-in-Control.field-0 reported c.in-Control.value c.in-Control.count _ is c.in_ok-run-in-Control.ensures.cause c.in_ok-run-in-Control.ensures.ok

pub returns-in_err-video-in-Video : goal.returns-in_err-video-in-Video
returns-in_err-video-in-Video c = λ reported seen.
    let is : IsVideo c.in-Video.digits.now reported = subst (λ (f : Form). IsForm f reported) c.in-Video.is seen in
    takes_refused dvi_listing _ c.args.periods reported (video_by true (decode_of c.in-Video.digits.now)) c.from_residual-in_err-video-in-Video.result _ is.reported c.in_err-video-in-Video.ensures.cause c.from_residual-in_err-video-in-Video.ensures.1

pub returns-in_ok-video-in-Video : goal.returns-in_ok-video-in-Video
returns-in_ok-video-in-Video c = λ reported seen.
    let is : IsVideo c.in-Video.digits.now reported = subst (λ (f : Form). IsForm f reported) c.in-Video.is seen in
    video_tells _ c.args.periods c.in_ok-video-in-Video.field-0 reported (decode_of c.in-Video.digits.now) _ is.reported c.in_ok-video-in-Video.ensures.cause c.in_ok-video-in-Video.ensures.ok

pub returns-in_err-close-in-End : goal.returns-in_err-close-in-End
returns-in_err-close-in-End c = λ reported seen.
    let is : reported ≡ end_line = subst (λ (f : Form). IsForm f reported) c.in-End.is seen in
    end_refused _ c.args.periods reported c.from_residual-in_err-close-in-End.result _ is c.in_err-close-in-End.ensures.cause c.from_residual-in_err-close-in-End.ensures.1

pub returns-in_ok-close-in-End : goal.returns-in_ok-close-in-End
returns-in_ok-close-in-End c = λ reported seen.
    let is : reported ≡ end_line = subst (λ (f : Form). IsForm f reported) c.in-End.is seen in
    step_closes _ c.args.periods c.in_ok-close-in-End.field-0 reported _ is c.in_ok-close-in-End.ensures.cause c.in_ok-close-in-End.ensures.ok

pub returns-in-Fault : goal.returns-in-Fault
returns-in-Fault c = λ reported seen.
    let is : reported ≡ fault_line = subst (λ (f : Form). IsForm f reported) c.in-Fault.is seen in
    step_wrong dvi_listing c.args.periods reported Fault (ap (dvi_line_cause c.args.periods) is ∙ fault_wrong c.args.periods)

pub returns-in-Island : goal.returns-in-Island
returns-in-Island c = λ reported seen. other_wrong c.args.periods reported c.args.form seen c.in-Island.is
