use Rattle.std.proofs.Common.{◌≡◌, ◌<◌, ℕ, slice_index, length}
use Rattle.std.specs.Prelude.{slice_index_or, []}
use Rattle.island_pack.specs.Registers.{laid_nibbles, register_words}
use Rattle.island_pack.proofs.laying.lay.Given as goal

abbrev pub invariant-loop-i : goal.invariant-loop-i
invariant-loop-i l = record {
  long : length l.out ≡ 32;
  laid : (k : ℕ) → k < l.i →
      slice_index_or l.out k [] ≡ register_words (laid_nibbles l.blocks.header l.blocks.bodies (slice_index l.packet.sync k) l.first k);
}
