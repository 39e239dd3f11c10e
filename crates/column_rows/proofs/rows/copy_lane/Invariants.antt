use Rattle.std.proofs.Common.{◌≡◌, ◌<◌, ℕ, [], get_or, slice_index, length}
use Rattle.std.specs.Prelude.{slice_index_or}
use Rattle.column_rows.proofs.rows.copy_lane.Given as goal

abbrev pub invariant-loop-i : goal.invariant-loop-i
invariant-loop-i l = record {
  long : length l.row ≡ 32;
  done : (k : ℕ) → k < l.i → get_or l.row k 0 ≡ slice_index (slice_index_or l.block k []) l.lane;
}
