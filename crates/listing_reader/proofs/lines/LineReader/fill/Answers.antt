use Rattle.std.proofs.Common.{arith}
use Rattle.std.proofs.lemmas.Grind.{common_steps}
use Rattle.listing_reader.proofs.lines.LineReader.fill.Goals as goal

pub invariant_of-self : goal.invariant_of-self
invariant_of-self c = grind (arith, common_steps)

pub invariant_of-self-2 : goal.invariant_of-self-2
invariant_of-self-2 c = grind (arith, common_steps)

pub returns-clause-more : goal.returns-clause-more
returns-clause-more c = grind (arith, common_steps)

pub returns-clause-ungiven : goal.returns-clause-ungiven
returns-clause-ungiven c = grind (arith, common_steps)

pub returns-in_err-count-clause-ungiven : goal.returns-in_err-count-clause-ungiven
returns-in_err-count-clause-ungiven c = grind (arith, common_steps)
