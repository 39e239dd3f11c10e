use Rattle.std.proofs.Common.{◌≡◌, ℕ, ◌<◌}
use Rattle.std.specs.Prelude.{slice_get, Some}
use Rattle.capture_file.specs.BlockDamage.{FitsLane}
use Rattle.capture_file.specs.declared.damaging.Hit.{Hit}
use Rattle.capture_file.proofs.block_damage.first_past_lane.Given as goal

abbrev pub invariant-loop-i : goal.invariant-loop-i
invariant-loop-i l = (k : ℕ) (h : Hit) → k < l.i → slice_get l.hits k ≡ Some h → FitsLane l.bits h
