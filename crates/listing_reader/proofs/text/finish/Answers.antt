use Rattle.std.proofs.Common.{arith}
use Rattle.listing_reader.proofs.Leaving.{finish_nothing, finish_after, finish_pending}
use Rattle.listing_reader.proofs.text.finish.Goals as goal

pub returns-then-is_ahead-clause-answers : goal.returns-then-is_ahead-clause-answers
returns-then-is_ahead-clause-answers g c = λ left known.
    finish_pending c.args.number c.args.whole left c.args.lines.now _ (c.is_ahead.ensures.yes c.if-is_ahead.true) c.bad.ensures

pub returns-then-not-is_nothing-clause-answers : goal.returns-then-not-is_nothing-clause-answers
returns-then-not-is_nothing-clause-answers g c = grind (arith, finish_after)

pub returns-clause-answers : goal.returns-clause-answers
returns-clause-answers g c = grind (arith, finish_nothing)
