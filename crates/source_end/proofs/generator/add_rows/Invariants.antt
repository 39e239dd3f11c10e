use Rattle.std.proofs.Common.{◌≡◌, length, []}
use Rattle.source_end.specs.Generator.{first_rows, Adds}
use Rattle.source_end.proofs.generator.add_rows.Given as goal

abbrev pub invariant-loop-y : goal.invariant-loop-y
invariant-loop-y l = record {
  count : length l.content ≡ length l.fn.content;
  added : Adds l.fn.content l.content [] (first_rows l.f l.y);
}
