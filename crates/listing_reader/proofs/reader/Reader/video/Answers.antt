use Rattle.std.proofs.Common.{ap, sym, ◌∙◌}
use Rattle.island_pack.specs.Periods.{video}
use Rattle.source_end.specs.Refusals.{push_fault}
use Rattle.listing_reader.specs.Causes.{caused}
use Rattle.listing_reader.specs.Drafts.{Draft}
use Rattle.listing_reader.proofs.Islands.{some_open, none_closed, video_turned, video_judged}
use Rattle.listing_reader.proofs.Refused.{answers_err, answers_done, answers_read, answers_unread}
use Rattle.listing_reader.proofs.reader.Reader.video.Goals as goal

pub returns-in_err-pixels-clause-cause : goal.returns-in_err-pixels-clause-cause
returns-in_err-pixels-clause-cause c = answers_unread _ c.args.self c.args.digits.now c.from_residual.result _ c.in_err-pixels.ensures.err c.from_residual.ensures.1

pub returns-then-is_some-clause-cause : goal.returns-then-is_some-clause-cause
returns-then-is_some-clause-cause c =
    let r = c.self.inside in
    answers_read c.args.self c.args.digits.now c.in_ok-pixels.pixels _ c.in_ok-pixels.ensures.ok
    (video_turned _ c.args.self c.in_ok-pixels.pixels c.out_of_turn.result (some_open r.periods r.island c.args.self c.self.view_is (sym c.is_some.ensures ∙ c.if-is_some.true))
    (λ h. c.out_of_turn.ensures.order (c.are_pixels_in_range.ensures ∙ h)) (λ h. c.out_of_turn.ensures.range (c.are_pixels_in_range.ensures ∙ h)))

pub returns-in_err-periods-clause-cause : goal.returns-in_err-periods-clause-cause
returns-in_err-periods-clause-cause c =
    let r = c.self.inside in
    let bytes = c.in_ok-pixels.pixels in
    answers_read c.args.self c.args.digits.now bytes _ c.in_ok-pixels.ensures.ok
    (answers_err _ _ _ _ c.from_residual-in_err-periods.result _
    (video_judged c.args.self bytes (none_closed r.periods r.island c.args.self c.self.view_is (sym c.is_some.ensures ∙ c.if-is_some.false))
    ∙ sym (ap (λ (d : Draft). caused (push_fault d.periods (video bytes))) c.self.view_is))
    c.in_err-periods.ensures.cause c.from_residual-in_err-periods.ensures.1)

pub returns-clause-cause : goal.returns-clause-cause
returns-clause-cause c =
    let r = c.self.inside in
    let bytes = c.in_ok-pixels.pixels in
    answers_read c.args.self c.args.digits.now bytes _ c.in_ok-pixels.ensures.ok
    (answers_done _ _ _ _ c.in_ok-periods.periods _
    (video_judged c.args.self bytes (none_closed r.periods r.island c.args.self c.self.view_is (sym c.is_some.ensures ∙ c.if-is_some.false))
    ∙ sym (ap (λ (d : Draft). caused (push_fault d.periods (video bytes))) c.self.view_is))
    c.in_ok-periods.ensures.cause)
