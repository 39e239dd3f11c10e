use Rattle.std.proofs.Common.{ap, sym, subst, ◌∙◌}
use Rattle.std.specs.Prelude.{Option}
use Rattle.source_end.specs.Refusals.{close_fault}
use Rattle.listing_reader.specs.declared.fault.ListCause.{ListCause}
use Rattle.listing_reader.specs.declared.fault.ListCause.TheVariants.{Order}
use Rattle.listing_reader.specs.Causes.{caused}
use Rattle.listing_reader.specs.Drafts.{Draft}
use Rattle.listing_reader.specs.Reported.{AnswersCause}
use Rattle.listing_reader.proofs.Islands.{some_open, none_closed, end_open, end_judged}
use Rattle.listing_reader.proofs.Refused.{answers_cause}
use Rattle.listing_reader.proofs.reader.Reader.close.Goals as goal

pub returns-then-is_some-clause-cause : goal.returns-then-is_some-clause-cause
returns-then-is_some-clause-cause c =
    let r = c.self.inside in
    answers_cause _ _ Order (end_open c.args.self (some_open r.periods r.island c.args.self c.self.view_is (sym c.is_some.ensures ∙ c.if-is_some.true)))

pub returns-clause-cause : goal.returns-clause-cause
returns-clause-cause c =
    let r = c.self.inside in
    let closed = none_closed r.periods r.island c.args.self c.self.view_is (sym c.is_some.ensures ∙ c.if-is_some.false) in
    subst (λ (s : Option ListCause). AnswersCause s c.close.result) (ap (λ (d : Draft). caused (close_fault d.periods)) c.self.view_is ∙ sym (end_judged c.args.self closed)) c.close.ensures.cause
