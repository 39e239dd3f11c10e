use Rattle.std.proofs.Common.{ap, sym, ◌∙◌}
use Rattle.island_pack.specs.Periods.{columns_of}
use Rattle.listing_reader.specs.Causes.{run_cause_after}
use Rattle.listing_reader.specs.Drafts.{Draft}
use Rattle.listing_reader.proofs.Islands.{some_open, none_closed, run_turned, run_judged}
use Rattle.listing_reader.proofs.Refused.{answers_err, answers_done}
use Rattle.listing_reader.proofs.reader.Reader.run.Goals as goal

pub returns-then-is_some-clause-cause : goal.returns-then-is_some-clause-cause
returns-then-is_some-clause-cause c =
    let r = c.self.inside in
    run_turned _ c.args.self c.args.value c.args.count c.out_of_turn.result (some_open r.periods r.island c.args.self c.self.view_is (sym c.is_some.ensures ∙ c.if-is_some.true))
    (λ h. c.out_of_turn.ensures.order (c.is_run_in_range.ensures ∙ h)) (λ h. c.out_of_turn.ensures.range (c.is_run_in_range.ensures ∙ h))

pub returns-in_err-periods-clause-cause : goal.returns-in_err-periods-clause-cause
returns-in_err-periods-clause-cause c =
    let r = c.self.inside in
    answers_err _ _ _ _ c.from_residual.result _
    (run_judged c.args.self c.args.value c.args.count (none_closed r.periods r.island c.args.self c.self.view_is (sym c.is_some.ensures ∙ c.if-is_some.false))
    ∙ sym (ap (λ (d : Draft). run_cause_after (columns_of d.periods) c.args.value c.args.count) c.self.view_is))
    c.in_err-periods.ensures.cause c.from_residual.ensures.1

pub returns-clause-cause : goal.returns-clause-cause
returns-clause-cause c =
    let r = c.self.inside in
    answers_done _ _ _ _ c.in_ok-periods.periods _
    (run_judged c.args.self c.args.value c.args.count (none_closed r.periods r.island c.args.self c.self.view_is (sym c.is_some.ensures ∙ c.if-is_some.false))
    ∙ sym (ap (λ (d : Draft). run_cause_after (columns_of d.periods) c.args.value c.args.count) c.self.view_is))
    c.in_ok-periods.ensures.cause
