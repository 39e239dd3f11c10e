use Rattle.std.proofs.Common.{arith}
use Rattle.terc4.proofs.Entries.{some_terc, no_terc}
use Rattle.terc4.proofs.values.nibble.Goals as goal

pub returns-then-code-lt16-clause-value : goal.returns-then-code-lt16-clause-value
returns-then-code-lt16-clause-value c = grind (arith, some_terc)

pub returns-else-code-lt16-clause-value : goal.returns-else-code-lt16-clause-value
returns-else-code-lt16-clause-value c = grind (arith, no_terc)
