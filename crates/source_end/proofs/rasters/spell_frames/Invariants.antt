use Rattle.std.proofs.Common.{◌≡◌, ◌++◌, List, length}
use Rattle.std.specs.Vec.Iter.{into_iter_items, into_iter_len}
use Rattle.tmds_word.specs.Column.{Column}
use Rattle.island_pack.specs.Periods.{Period}
use Rattle.island_pack.specs.Spelling.{Spells}
use Rattle.source_end.specs.Gathering.{Parted}
use Rattle.source_end.proofs.RasterWriting.{bodies}
use Rattle.source_end.proofs.rasters.spell_frames.Given as goal

abbrev pub invariant-loop-frame : goal.invariant-loop-frame
invariant-loop-frame g l = record {
  frames : l.yielded ++ into_iter_items l.frame-iterator ≡ l.fn.content;
  count : into_iter_len l.frame-iterator ≡ length (into_iter_items l.frame-iterator);
  periods : List Period;
  columns : List Column;
  parted : Parted periods l.gathering (bodies l.mode l.yielded);
  taken : g.C.ColumnSink.taken l.out ≡ g.C.ColumnSink.taken l.initial.out ++ columns;
  spelled : Spells periods columns;
}
