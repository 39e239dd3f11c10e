use Rattle.std.proofs.Common.{◌≡◌, length, map, take}
use Rattle.island_pack.specs.Periods.{pixels_of}
use Rattle.source_end.specs.LineCoding.{GoesOn, byte_of}
use Rattle.column_rows.proofs.rows.code_row.Given as goal

abbrev pub invariant-loop-i : goal.invariant-loop-i
invariant-loop-i l = record {
  size : length l.row ≡ length l.fn.row;
  lane : GoesOn l.initial.coder l.coder (map (byte_of l.part) (take l.i (pixels_of l.bytes))) (take l.i l.row);
}
