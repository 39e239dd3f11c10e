use Rattle.std.proofs.Common.{◌≡◌, drop}
use Rattle.source_end.specs.RasterRefusals.{bad_rows}
use Rattle.source_end.proofs.refusal.rows_fault.Given as goal

abbrev pub invariant-loop-frame : goal.invariant-loop-frame
invariant-loop-frame l = record {
  number_is : l.number ≡ l.frame-index;
  rest : bad_rows l.mode 0 l.frames ≡ bad_rows l.mode l.frame-index (drop l.frame-index l.frames);
}
