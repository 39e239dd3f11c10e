use Rattle.std.proofs.Common.{◌≡◌, ◌≤◌, ◌++◌, replicate}
use Rattle.tmds_word.specs.Column.{column_of}
use Rattle.source_end.proofs.spell.few.Given as goal

abbrev pub invariant-loop : goal.invariant-loop
invariant-loop g l = record {
  taken : g.C.ColumnSink.taken l.out ≡ g.C.ColumnSink.taken l.initial.out ++ replicate l.counter (column_of l.fn.words);
  later : g.C.ColumnSink.refusals l.initial.out ≤ g.C.ColumnSink.refusals l.out;
}
