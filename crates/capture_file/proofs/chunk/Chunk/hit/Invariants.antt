use Rattle.std.proofs.Common.{◌≡◌, ◌+◌, ◌≤◌, Bool, List, length, take, drop}
use Rattle.capture_file.proofs.Bitwise.{begun}
use Rattle.capture_file.proofs.chunk.Chunk.hit.Given as goal

abbrev pub invariant-loop-k : goal.invariant-loop-k
invariant-loop-k l = record {
  size : length l.self ≡ length l.fn.self;
  part : (row : List Bool) → l.place + 10 ≤ length row → l.fn.self ≡ take (length l.fn.self) (drop l.from row)
      → l.self ≡ take (length l.fn.self) (drop l.from (begun l.place l.value l.k row));
}
