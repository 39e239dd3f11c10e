use Rattle.std.proofs.Common.{◌≡◌, ◌*◌, ◌-◌, ◌≤◌, ◌++◌, ℕ, List, length, min}
use Rattle.std.specs.Prelude.{slice_index}
use Rattle.std.specs.Io.KnownBytes.{Consumes}
use Rattle.capture_file.specs.Captures.{header_of, Stands}
use Rattle.capture_file.proofs.slipping.read_rows.Given as goal

abbrev pub invariant-loop-j : goal.invariant-loop-j
invariant-loop-j g l = record {
  blue : length l.rows.blue ≡ min (slice_index l.heading.bits 0) (32768 * l.j);
  green : length l.rows.green ≡ min (slice_index l.heading.bits 1) (32768 * l.j);
  red : length l.rows.red ≡ min (slice_index l.heading.bits 2) (32768 * l.j);
  went :
      (part : List ℕ) × Consumes (g.S.Source.left l.initial.source) (g.S.Source.left l.source) part
      × Stands l.heading.version l.heading.bits l.j (header_of l.heading.version l.heading.bits ++ part) l.rows.blue l.rows.green l.rows.red;
  few : l.j ≤ 131072;
  later : g.S.Source.faults l.initial.source ≤ g.S.Source.faults l.source;
}

abbrev pub decreases-loop-j : goal.decreases-loop-j
decreases-loop-j g l = 131072 - l.j
