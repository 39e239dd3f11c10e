use Rattle.std.proofs.Common.{◌≡◌, ◌≤◌, ◌-◌, drop}
use Rattle.source_end.specs.Raster.{active}
use Rattle.source_end.specs.RasterRefusals.{bad_row}
use Rattle.source_end.proofs.refusal.row_fault.Given as goal

abbrev pub invariant-loop-i : goal.invariant-loop-i
invariant-loop-i l = record {
  row_is : l.row ≡ l.i;
  few : l.row ≤ l.height;
  rest : bad_row (active l.mode.across) l.frame 0 (active l.mode.down) l.rows ≡ bad_row (active l.mode.across) l.frame l.i (active l.mode.down - l.i) (drop l.i l.rows);
}
