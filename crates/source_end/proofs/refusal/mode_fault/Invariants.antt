use Rattle.std.proofs.Common.{◌≡◌, drop}
use Rattle.source_end.specs.RasterRefusals.{numbers_of, bad_mode}
use Rattle.source_end.proofs.refusal.mode_fault.Given as goal

abbrev pub invariant-loop-i : goal.invariant-loop-i
invariant-loop-i l = bad_mode 0 (numbers_of l.mode) ≡ bad_mode l.i (drop l.i (numbers_of l.mode))
