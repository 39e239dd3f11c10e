use Rattle.std.proofs.Common.{◌≡◌, drop}
use Rattle.source_end.specs.RasterRefusals.{no_room}
use Rattle.source_end.proofs.refusal.room_fault.Given as goal

abbrev pub invariant-loop-frame : goal.invariant-loop-frame
invariant-loop-frame l = record {
  number_is : l.number ≡ l.frame-index;
  rest : no_room l.mode 0 l.frames ≡ no_room l.mode l.frame-index (drop l.frame-index l.frames);
}
