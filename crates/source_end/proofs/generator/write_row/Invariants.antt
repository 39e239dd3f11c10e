use Rattle.std.proofs.Common.{◌≡◌}
use Rattle.source_end.specs.Generator.{row_bytes}
use Rattle.source_end.proofs.generator.write_row.Given as goal

abbrev pub invariant-loop-k : goal.invariant-loop-k
invariant-loop-k l = l.out.items ≡ row_bytes l.f l.y l.k
