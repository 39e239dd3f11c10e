use Rattle.std.proofs.Common.{◌≡◌, ◌≤◌, ◌*◌, ◌/◌, ◌++◌, length, take}
use Rattle.tmds_word.specs.Words.{packed_columns}
use Rattle.tmds_word.proofs.column.ColumnSink.packed.Given as goal

abbrev pub invariant-loop-i : goal.invariant-loop-i
invariant-loop-i g l = record {
  in_range : l.i ≤ length l.blue / 5 * 4;
  taken : g.Self.ColumnSink.taken l.self ≡ g.Self.ColumnSink.taken l.initial.self ++ take l.i (packed_columns l.blue l.green l.red);
  later : g.Self.ColumnSink.refusals l.initial.self ≤ g.Self.ColumnSink.refusals l.self;
}
