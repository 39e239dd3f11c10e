use Rattle.std.proofs.Common.{◌≤◌, ◌-◌, ◌++◌, ℕ, List}
use Rattle.std.specs.Prelude.{Option}
use Rattle.std.specs.Io.KnownBytes.{Consumes}
use Rattle.capture_file.specs.BlockDamage.{Halfway}
use Rattle.capture_file.proofs.block_damage.damage_lanes.Given as goal

abbrev pub invariant-loop-j : goal.invariant-loop-j
invariant-loop-j g l = record {
  went :
      (taken : List ℕ) (before : Option (List ℕ)) → Halfway l.heading.version l.heading.bits l.hits 0 taken before (g.K.Sink.held l.initial.out)
      → (part : List ℕ) × Consumes (g.S.Source.left l.initial.source) (g.S.Source.left l.source) part × Halfway l.heading.version l.heading.bits l.hits l.j (taken ++ part) before (g.K.Sink.held l.out);
  taken : (taken : List ℕ) × Consumes (g.S.Source.left l.initial.source) (g.S.Source.left l.source) taken;
  input_later : g.S.Source.faults l.initial.source ≤ g.S.Source.faults l.source;
  few : l.j ≤ 131072;
  output_later : g.K.Sink.faults l.initial.out ≤ g.K.Sink.faults l.out;
}

abbrev pub decreases-loop-j : goal.decreases-loop-j
decreases-loop-j g l = 131072 - l.j
