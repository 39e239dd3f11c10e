use Rattle.std.proofs.Common.{◌≡◌, ◌+◌, ◌*◌, take, length}
use Rattle.island_pack.specs.Registers.{crossed_of}
use Rattle.island_pack.proofs.NibblePairs.{HasFirst}
use Rattle.island_pack.proofs.laying.lay_bodies.Given as goal

abbrev pub invariant-loop-r : goal.invariant-loop-r
invariant-loop-r l = record {
  green_size : length l.green ≡ 40;
  red_size : length l.red ≡ 40;
  green : HasFirst (4 * l.r) (take (5 * l.r) l.green) (λ i. crossed_of l.bodies (2 * i));
  red : HasFirst (4 * l.r) (take (5 * l.r) l.red) (λ i. crossed_of l.bodies (2 * i + 1));
}
