use Rattle.std.proofs.Common.{arith}
use Rattle.source_end.proofs.Leads.{columns_kept}
use Rattle.source_end.proofs.item.Runs.push.Goals as goal

pub invariant_of-self-2 : goal.invariant_of-self-2
invariant_of-self-2 c = grind (arith, columns_kept)
