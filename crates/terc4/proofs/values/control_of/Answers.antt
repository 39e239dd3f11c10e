use Rattle.std.proofs.Common.{arith}
use Rattle.terc4.proofs.Entries.{some_control, no_control}
use Rattle.terc4.proofs.values.control_of.Goals as goal

pub returns-then-code-lt4-clause-value : goal.returns-then-code-lt4-clause-value
returns-then-code-lt4-clause-value c = grind (arith, some_control)

pub returns-else-code-lt4-clause-value : goal.returns-else-code-lt4-clause-value
returns-else-code-lt4-clause-value c = grind (arith, no_control)
