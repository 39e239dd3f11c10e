use Rattle.std.proofs.Common.{◌≡◌, ◌≤◌, ◌*◌, ◌/◌, ◌++◌, List, length, map, take, min}
use Rattle.tmds_word.specs.Column.{Column}
use Rattle.tmds_code.specs.Pasts.{IsCoderAfter}
use Rattle.island_pack.specs.Periods.{Pixel, pixels_of}
use Rattle.source_end.proofs.line_coding.pixels.Given as goal

abbrev pub invariant-loop-i : goal.invariant-loop-i
invariant-loop-i g l = record {
  columns : List Column;
  taken : g.C.ColumnSink.taken l.out ≡ g.C.ColumnSink.taken l.initial.out ++ columns;
  blue_lane : IsCoderAfter l.coders.blue (map (λ (p : Pixel). p.blue) (take (min (length l.bytes / 3 / 4 * 4) (256 * l.i)) (pixels_of l.bytes))) (map (λ (c : Column). c.blue) columns);
  green_lane : IsCoderAfter l.coders.green (map (λ (p : Pixel). p.green) (take (min (length l.bytes / 3 / 4 * 4) (256 * l.i)) (pixels_of l.bytes))) (map (λ (c : Column). c.green) columns);
  red_lane : IsCoderAfter l.coders.red (map (λ (p : Pixel). p.red) (take (min (length l.bytes / 3 / 4 * 4) (256 * l.i)) (pixels_of l.bytes))) (map (λ (c : Column). c.red) columns);
  as_many : length columns ≡ min (length l.bytes / 3 / 4 * 4) (256 * l.i);
  later : g.C.ColumnSink.refusals l.initial.out ≤ g.C.ColumnSink.refusals l.out;
}
