use Rattle.std.proofs.Common.{◌≡◌, ◌≤◌, take}
use Rattle.source_end.specs.Generator.{row_bytes}
use Rattle.sampling.specs.Counts.{unlike}
use Rattle.sampling.proofs.pictures.unlike_bytes.Given as goal

abbrev pub invariant-loop-k : goal.invariant-loop-k
invariant-loop-k l = record {
  counted : l.count ≡ unlike (take l.k l.bytes) (row_bytes l.frame l.row l.k);
  few : l.count ≤ l.k;
}
