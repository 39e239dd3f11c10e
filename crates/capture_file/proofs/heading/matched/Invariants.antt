use Rattle.std.proofs.Common.{◌≡◌, ◌≤◌, ◌-◌, take, min}
use Rattle.std.specs.Prelude.{codes}
use Rattle.capture_file.proofs.heading.matched.Given as goal

abbrev pub invariant-loop-at : goal.invariant-loop-at
invariant-loop-at l = record {
  few : l.at ≤ min l.count 3;
  like : take l.at l.head ≡ take l.at (codes "TMC");
  mark : l.mark ≡ codes "TMC";
}

abbrev pub decreases-loop-at : goal.decreases-loop-at
decreases-loop-at l = l.count - l.at
