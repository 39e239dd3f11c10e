use Rattle.std.proofs.Common.{◌≤◌, length}
use Rattle.capture_file_tests.proofs.tests.lanes_of.Given as goal

abbrev pub invariant-loop-i : goal.invariant-loop-i
invariant-loop-i l = length l.lanes.columns ≤ l.i
