use Rattle.std.proofs.Common.{◌≡◌, ◌*◌, take, length, slice_index}
use Rattle.island_pack.specs.Registers.{blue_of}
use Rattle.island_pack.proofs.NibblePairs.{HasFirst}
use Rattle.island_pack.proofs.laying.lay_header.Given as goal

abbrev pub invariant-loop-r : goal.invariant-loop-r
invariant-loop-r l = record {
  size : length l.into ≡ 40;
  nibbles : HasFirst (4 * l.r) (take (5 * l.r) l.into) (λ i. blue_of l.header (slice_index l.sync i) l.first i);
}
