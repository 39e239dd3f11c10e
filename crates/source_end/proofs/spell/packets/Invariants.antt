use Rattle.std.proofs.Common.{◌≡◌, ◌≤◌, ◌*◌, ◌++◌, ◌==◌, List, true, take, length, min}
use Rattle.tmds_word.specs.Column.{Column}
use Rattle.island_pack.specs.Spelling.{SpellsPackets}
use Rattle.source_end.proofs.spell.packets.Given as goal

abbrev pub invariant-loop-i : goal.invariant-loop-i
invariant-loop-i g l = record {
  columns : List Column;
  taken : g.C.ColumnSink.taken l.out ≡ g.C.ColumnSink.taken l.initial.out ++ columns;
  spelled : SpellsPackets true (take (min (length l.packets) (8 * l.i)) l.packets) columns;
  first : l.first ≡ (l.i == 0);
  later : g.C.ColumnSink.refusals l.initial.out ≤ g.C.ColumnSink.refusals l.out;
}
