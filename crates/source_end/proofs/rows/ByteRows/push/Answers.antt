use Rattle.std.proofs.Common.{arith, length-append}
use Rattle.source_end.proofs.RowEnds.{ends_more, rows_more}
use Rattle.source_end.proofs.rows.ByteRows.push.Goals as goal

pub invariant_of-self-2 : goal.invariant_of-self-2
invariant_of-self-2 c = grind (arith, length-append, ends_more)

pub returns-clause-ok : goal.returns-clause-ok
returns-clause-ok c = grind (arith, length-append, rows_more)
