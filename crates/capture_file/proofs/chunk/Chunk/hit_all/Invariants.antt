use Rattle.std.proofs.Common.{◌≡◌, Bool, List, length, take, drop}
use Rattle.capture_file.specs.Damage.{damaged}
use Rattle.capture_file.specs.BlockDamage.{LaneFits}
use Rattle.capture_file.proofs.chunk.Chunk.hit_all.Given as goal

abbrev pub invariant-loop-hit : goal.invariant-loop-hit
invariant-loop-hit l = record {
  size : length l.self ≡ length l.fn.self;
  part : (row : List Bool) → LaneFits l.lane (length row) l.hits → l.fn.self ≡ take (length l.fn.self) (drop l.from row)
      → l.self ≡ take (length l.fn.self) (drop l.from (damaged l.lane (take l.hit-index l.hits) row));
}
