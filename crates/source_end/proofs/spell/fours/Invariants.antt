use Rattle.std.proofs.Common.{◌≡◌, ◌≤◌, ◌*◌, ◌++◌, replicate, min}
use Rattle.tmds_word.specs.Column.{column_of}
use Rattle.source_end.proofs.spell.fours.Given as goal

abbrev pub invariant-loop-i : goal.invariant-loop-i
invariant-loop-i g l = record {
  taken : g.C.ColumnSink.taken l.out ≡ g.C.ColumnSink.taken l.initial.out ++ replicate (4 * min l.fn.count (16 * l.i)) (column_of l.fn.words);
  later : g.C.ColumnSink.refusals l.initial.out ≤ g.C.ColumnSink.refusals l.out;
}
