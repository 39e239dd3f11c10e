use Rattle.std.proofs.Common.{◌≡◌, ap, subst, true, refl, ◌∙◌}
use Rattle.std.specs.Prelude.{slice_index}
use Rattle.hex.specs.Hex.{decode_of}
use Rattle.listing_reader.specs.declared.fault.ListCause.TheVariants.{Fault, Form as Form_cause}
use Rattle.listing_reader.specs.declared.form.Form.{Form}
use Rattle.listing_reader.specs.Causes.{line_cause}
use Rattle.listing_reader.specs.Forms.{control_line, video_by, island_line, packet_line, close_line, end_line, fault_line, no_line}
use Rattle.listing_reader.specs.FormSeen.{IsForm, IsVideo}
use Rattle.listing_reader.proofs.LinkSteps.{link_listing, end_refused, video_tells, step_closes, fault_wrong, none_wrong}
use Rattle.listing_reader.proofs.Steps.{takes_refused, step_tells, step_wrong}
use Rattle.listing_reader.proofs.reader.Reader.take_form.Goals as goal

pub returns-in_err-run-in-Control : goal.returns-in_err-run-in-Control
returns-in_err-run-in-Control c = λ reported seen.
    let is : reported ≡ control_line c.in-Control.value c.in-Control.count = subst (λ (f : Form). IsForm f reported) c.in-Control.is seen in
    takes_refused link_listing _ c.args.self reported (control_line c.in-Control.value c.in-Control.count) c.from_residual.result _ is c.in_err-run-in-Control.ensures.cause c.from_residual.ensures.1

pub returns-in_ok-run-in-Control : goal.returns-in_ok-run-in-Control
returns-in_ok-run-in-Control c = λ reported seen.
    let is : reported ≡ control_line c.in-Control.value c.in-Control.count = subst (λ (f : Form). IsForm f reported) c.in-Control.is seen in
    step_tells link_listing _ c.args.self c.in_ok-run-in-Control.field-0 reported (control_line c.in-Control.value c.in-Control.count) _ is c.in_ok-run-in-Control.ensures.cause refl c.in_ok-run-in-Control.ensures.ok

pub returns-in_err-open_island-in-Island : goal.returns-in_err-open_island-in-Island
returns-in_err-open_island-in-Island c = λ reported seen.
    let is : reported ≡ island_line (slice_index c.in-Island.sync 0) (slice_index c.in-Island.sync 1) = subst (λ (f : Form). IsForm f reported) c.in-Island.is seen in
    takes_refused link_listing _ c.args.self reported (island_line (slice_index c.in-Island.sync 0) (slice_index c.in-Island.sync 1)) c.from_residual-in_err-open_island-in-Island.result _ is c.in_err-open_island-in-Island.ensures.cause c.from_residual-in_err-open_island-in-Island.ensures.1

pub returns-in_ok-open_island-in-Island : goal.returns-in_ok-open_island-in-Island
returns-in_ok-open_island-in-Island c = λ reported seen.
    let is : reported ≡ island_line (slice_index c.in-Island.sync 0) (slice_index c.in-Island.sync 1) = subst (λ (f : Form). IsForm f reported) c.in-Island.is seen in
    step_tells link_listing _ c.args.self c.in_ok-open_island-in-Island.field-0 reported (island_line (slice_index c.in-Island.sync 0) (slice_index c.in-Island.sync 1)) _ is c.in_ok-open_island-in-Island.ensures.cause refl c.in_ok-open_island-in-Island.ensures.ok

pub returns-in_err-add_packet-in-Packet : goal.returns-in_err-add_packet-in-Packet
returns-in_err-add_packet-in-Packet c = λ reported seen.
    let is : reported ≡ packet_line c.in-Packet.packet = subst (λ (f : Form). IsForm f reported) c.in-Packet.is seen in
    takes_refused link_listing _ c.args.self reported (packet_line c.in-Packet.packet) c.from_residual-in_err-add_packet-in-Packet.result _ is c.in_err-add_packet-in-Packet.ensures.cause c.from_residual-in_err-add_packet-in-Packet.ensures.1

pub returns-in_ok-add_packet-in-Packet : goal.returns-in_ok-add_packet-in-Packet
returns-in_ok-add_packet-in-Packet c = λ reported seen.
    let is : reported ≡ packet_line c.in-Packet.packet = subst (λ (f : Form). IsForm f reported) c.in-Packet.is seen in
    step_tells link_listing _ c.args.self c.in_ok-add_packet-in-Packet.field-0 reported (packet_line c.in-Packet.packet) _ is c.in_ok-add_packet-in-Packet.ensures.cause refl c.in_ok-add_packet-in-Packet.ensures.ok

pub returns-in_err-close_island-in-Close : goal.returns-in_err-close_island-in-Close
returns-in_err-close_island-in-Close c = λ reported seen.
    let is : reported ≡ close_line (slice_index c.in-Close.sync 0) (slice_index c.in-Close.sync 1) = subst (λ (f : Form). IsForm f reported) c.in-Close.is seen in
    takes_refused link_listing _ c.args.self reported (close_line (slice_index c.in-Close.sync 0) (slice_index c.in-Close.sync 1)) c.from_residual-in_err-close_island-in-Close.result _ is c.in_err-close_island-in-Close.ensures.cause c.from_residual-in_err-close_island-in-Close.ensures.1

pub returns-in_ok-close_island-in-Close : goal.returns-in_ok-close_island-in-Close
returns-in_ok-close_island-in-Close c = λ reported seen.
    let is : reported ≡ close_line (slice_index c.in-Close.sync 0) (slice_index c.in-Close.sync 1) = subst (λ (f : Form). IsForm f reported) c.in-Close.is seen in
    step_tells link_listing _ c.args.self c.in_ok-close_island-in-Close.field-0 reported (close_line (slice_index c.in-Close.sync 0) (slice_index c.in-Close.sync 1)) _ is c.in_ok-close_island-in-Close.ensures.cause refl c.in_ok-close_island-in-Close.ensures.ok

pub returns-in_err-video-in-Video : goal.returns-in_err-video-in-Video
returns-in_err-video-in-Video c = λ reported seen.
    let is : IsVideo c.in-Video.digits.now reported = subst (λ (f : Form). IsForm f reported) c.in-Video.is seen in
    takes_refused link_listing _ c.args.self reported (video_by true (decode_of c.in-Video.digits.now)) c.from_residual-in_err-video-in-Video.result _ is.reported c.in_err-video-in-Video.ensures.cause c.from_residual-in_err-video-in-Video.ensures.1

pub returns-in_ok-video-in-Video : goal.returns-in_ok-video-in-Video
returns-in_ok-video-in-Video c = λ reported seen.
    let is : IsVideo c.in-Video.digits.now reported = subst (λ (f : Form). IsForm f reported) c.in-Video.is seen in
    video_tells _ c.args.self c.in_ok-video-in-Video.field-0 reported (decode_of c.in-Video.digits.now) _ is.reported c.in_ok-video-in-Video.ensures.cause c.in_ok-video-in-Video.ensures.ok

pub returns-in_err-close-in-End : goal.returns-in_err-close-in-End
returns-in_err-close-in-End c = λ reported seen.
    let is : reported ≡ end_line = subst (λ (f : Form). IsForm f reported) c.in-End.is seen in
    end_refused _ c.args.self reported c.from_residual-in_err-close-in-End.result _ is c.in_err-close-in-End.ensures.cause c.from_residual-in_err-close-in-End.ensures.1

pub returns-in_ok-close-in-End : goal.returns-in_ok-close-in-End
returns-in_ok-close-in-End c = λ reported seen.
    let is : reported ≡ end_line = subst (λ (f : Form). IsForm f reported) c.in-End.is seen in
    step_closes _ c.args.self c.in_ok-close-in-End.field-0 reported _ is c.in_ok-close-in-End.ensures.cause c.in_ok-close-in-End.ensures.ok

pub returns-in-Fault : goal.returns-in-Fault
returns-in-Fault c = λ reported seen.
    let is : reported ≡ fault_line = subst (λ (f : Form). IsForm f reported) c.in-Fault.is seen in
    step_wrong link_listing c.args.self reported Fault (ap (line_cause c.args.self) is ∙ fault_wrong c.args.self)

pub returns-in-Other : goal.returns-in-Other
returns-in-Other c = λ reported seen.
    let is : reported ≡ no_line = subst (λ (f : Form). IsForm f reported) c.in-Other.is seen in
    step_wrong link_listing c.args.self reported Form_cause (ap (line_cause c.args.self) is ∙ none_wrong c.args.self)
