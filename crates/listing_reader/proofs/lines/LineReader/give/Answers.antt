use Rattle.std.proofs.Common.{arith}
use Rattle.std.proofs.lemmas.Grind.{common_steps}
use Rattle.listing_reader.proofs.Parts.{drop_part}
use Rattle.listing_reader.proofs.lines.LineReader.give.Goals as goal

pub returns-clause-pending : goal.returns-clause-pending
returns-clause-pending c = grind (arith, common_steps, drop_part)

pub invariant_of-self : goal.invariant_of-self
invariant_of-self c = grind (arith, common_steps)

pub overflow_add-self : goal.overflow_add-self
overflow_add-self c = grind (arith, common_steps)

pub overflow_add-self-2 : goal.overflow_add-self-2
overflow_add-self-2 c = grind (arith, common_steps)
