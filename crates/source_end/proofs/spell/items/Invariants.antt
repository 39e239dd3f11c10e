use Rattle.std.proofs.Common.{◌≡◌, ◌≤◌, ◌++◌, List, take, map}
use Rattle.tmds_word.specs.Column.{Column}
use Rattle.source_end.specs.ItemPeriods.{period_of}
use Rattle.source_end.proofs.spell.items.Given as goal

abbrev pub invariant-loop-item : goal.invariant-loop-item
invariant-loop-item g l = record {
  columns : List Column;
  taken : g.C.ColumnSink.taken l.out ≡ g.C.ColumnSink.taken l.initial.out ++ columns;
  spelled : g.F.Framing.spells (take l.item-index (map period_of l.list)) columns;
  later : g.C.ColumnSink.refusals l.initial.out ≤ g.C.ColumnSink.refusals l.out;
}
