use Rattle.std.proofs.Common.{◌≡◌, ap, subst, true, refl, ◌∙◌}
use Rattle.hex.specs.Hex.{decode_of}
use Rattle.listing_reader.specs.declared.content_form.ContentForm.{ContentForm}
use Rattle.listing_reader.specs.declared.fault.ListCause.TheVariants.{Fault, Form}
use Rattle.listing_reader.specs.ContentForms.{mode_line, row_by, frame_line, packet_line, sample_line, end_line, fault_line, no_line}
use Rattle.listing_reader.specs.ContentFormSeen.{IsContentForm, IsRow}
use Rattle.listing_reader.specs.ContentKept.{kept_cause}
use Rattle.listing_reader.proofs.ContentSteps.{content_listing, row_tells, step_closes, fault_wrong, none_wrong}
use Rattle.listing_reader.proofs.Steps.{takes_refused, step_tells, step_wrong}
use Rattle.listing_reader.proofs.content_reader.ContentReader.take_form.Goals as goal

pub returns-in_err-mode-in-Mode : goal.returns-in_err-mode-in-Mode
returns-in_err-mode-in-Mode c = λ reported seen.
    let is : reported ≡ mode_line c.in-Mode.mode = subst (λ (f : ContentForm). IsContentForm f reported) c.in-Mode.is seen in
    takes_refused content_listing _ c.args.self reported (mode_line c.in-Mode.mode) c.from_residual.result _ is c.in_err-mode-in-Mode.ensures.cause c.from_residual.ensures.1

pub returns-in_ok-mode-in-Mode : goal.returns-in_ok-mode-in-Mode
returns-in_ok-mode-in-Mode c = λ reported seen.
    let is : reported ≡ mode_line c.in-Mode.mode = subst (λ (f : ContentForm). IsContentForm f reported) c.in-Mode.is seen in
    step_tells content_listing _ c.args.self c.in_ok-mode-in-Mode.field-0 reported (mode_line c.in-Mode.mode) _ is c.in_ok-mode-in-Mode.ensures.cause refl c.in_ok-mode-in-Mode.ensures.ok

pub returns-in_err-row-in-Row : goal.returns-in_err-row-in-Row
returns-in_err-row-in-Row c = λ reported seen.
    let is : IsRow c.in-Row.digits.now reported = subst (λ (f : ContentForm). IsContentForm f reported) c.in-Row.is seen in
    takes_refused content_listing _ c.args.self reported (row_by true (decode_of c.in-Row.digits.now)) c.from_residual-in_err-row-in-Row.result _ is.reported c.in_err-row-in-Row.ensures.cause c.from_residual-in_err-row-in-Row.ensures.1

pub returns-in_ok-row-in-Row : goal.returns-in_ok-row-in-Row
returns-in_ok-row-in-Row c = λ reported seen.
    let is : IsRow c.in-Row.digits.now reported = subst (λ (f : ContentForm). IsContentForm f reported) c.in-Row.is seen in
    row_tells _ c.args.self c.in_ok-row-in-Row.field-0 reported (decode_of c.in-Row.digits.now) _ is.reported c.in_ok-row-in-Row.ensures.cause c.in_ok-row-in-Row.ensures.ok

pub returns-in_err-frame-in-Frame : goal.returns-in_err-frame-in-Frame
returns-in_err-frame-in-Frame c = λ reported seen.
    let is : reported ≡ frame_line c.in-Frame.width c.in-Frame.height = subst (λ (f : ContentForm). IsContentForm f reported) c.in-Frame.is seen in
    takes_refused content_listing _ c.args.self reported (frame_line c.in-Frame.width c.in-Frame.height) c.from_residual-in_err-frame-in-Frame.result _ is c.in_err-frame-in-Frame.ensures.cause c.from_residual-in_err-frame-in-Frame.ensures.1

pub returns-in_ok-frame-in-Frame : goal.returns-in_ok-frame-in-Frame
returns-in_ok-frame-in-Frame c = λ reported seen.
    let is : reported ≡ frame_line c.in-Frame.width c.in-Frame.height = subst (λ (f : ContentForm). IsContentForm f reported) c.in-Frame.is seen in
    step_tells content_listing _ c.args.self c.in_ok-frame-in-Frame.field-0 reported (frame_line c.in-Frame.width c.in-Frame.height) _ is c.in_ok-frame-in-Frame.ensures.cause refl c.in_ok-frame-in-Frame.ensures.ok

pub returns-in_err-packet-in-Packet : goal.returns-in_err-packet-in-Packet
returns-in_err-packet-in-Packet c = λ reported seen.
    let is : reported ≡ packet_line c.in-Packet.packet = subst (λ (f : ContentForm). IsContentForm f reported) c.in-Packet.is seen in
    takes_refused content_listing _ c.args.self reported (packet_line c.in-Packet.packet) c.from_residual-in_err-packet-in-Packet.result _ is c.in_err-packet-in-Packet.ensures.cause c.from_residual-in_err-packet-in-Packet.ensures.1

pub returns-in_ok-packet-in-Packet : goal.returns-in_ok-packet-in-Packet
returns-in_ok-packet-in-Packet c = λ reported seen.
    let is : reported ≡ packet_line c.in-Packet.packet = subst (λ (f : ContentForm). IsContentForm f reported) c.in-Packet.is seen in
    step_tells content_listing _ c.args.self c.in_ok-packet-in-Packet.field-0 reported (packet_line c.in-Packet.packet) _ is c.in_ok-packet-in-Packet.ensures.cause refl c.in_ok-packet-in-Packet.ensures.ok

pub returns-in_err-sample-in-Sample : goal.returns-in_err-sample-in-Sample
returns-in_err-sample-in-Sample c = λ reported seen.
    let is : reported ≡ sample_line c.in-Sample.sample = subst (λ (f : ContentForm). IsContentForm f reported) c.in-Sample.is seen in
    takes_refused content_listing _ c.args.self reported (sample_line c.in-Sample.sample) c.from_residual-in_err-sample-in-Sample.result _ is c.in_err-sample-in-Sample.ensures.cause c.from_residual-in_err-sample-in-Sample.ensures.1

pub returns-in_ok-sample-in-Sample : goal.returns-in_ok-sample-in-Sample
returns-in_ok-sample-in-Sample c = λ reported seen.
    let is : reported ≡ sample_line c.in-Sample.sample = subst (λ (f : ContentForm). IsContentForm f reported) c.in-Sample.is seen in
    step_tells content_listing _ c.args.self c.in_ok-sample-in-Sample.field-0 reported (sample_line c.in-Sample.sample) _ is c.in_ok-sample-in-Sample.ensures.cause refl c.in_ok-sample-in-Sample.ensures.ok

pub returns-in_err-close-in-End : goal.returns-in_err-close-in-End
returns-in_err-close-in-End c = λ reported seen.
    let is : reported ≡ end_line = subst (λ (f : ContentForm). IsContentForm f reported) c.in-End.is seen in
    takes_refused content_listing _ c.args.self reported end_line c.from_residual-in_err-close-in-End.result _ is c.in_err-close-in-End.ensures.cause c.from_residual-in_err-close-in-End.ensures.1

pub returns-in_ok-close-in-End : goal.returns-in_ok-close-in-End
returns-in_ok-close-in-End c = λ reported seen.
    let is : reported ≡ end_line = subst (λ (f : ContentForm). IsContentForm f reported) c.in-End.is seen in
    step_closes _ c.args.self c.in_ok-close-in-End.field-0 reported _ is c.in_ok-close-in-End.ensures.cause c.in_ok-close-in-End.ensures.ok

pub returns-in-Fault : goal.returns-in-Fault
returns-in-Fault c = λ reported seen.
    let is : reported ≡ fault_line = subst (λ (f : ContentForm). IsContentForm f reported) c.in-Fault.is seen in
    step_wrong content_listing c.args.self reported Fault (ap (kept_cause c.args.self) is ∙ fault_wrong c.args.self)

pub returns-in-Other : goal.returns-in-Other
returns-in-Other c = λ reported seen.
    let is : reported ≡ no_line = subst (λ (f : ContentForm). IsContentForm f reported) c.in-Other.is seen in
    step_wrong content_listing c.args.self reported Form (ap (kept_cause c.args.self) is ∙ none_wrong c.args.self)
