use Rattle.std.proofs.Common.{arith}
use Rattle.audio_out.proofs.Packed.{packed_places}
use Rattle.audio_out.proofs.blocks.packed.Goals as goal

pub returns : goal.returns
returns c = packed_places c.args.bits.now c.loop-place.byte-items c.loop-place-test.array_long (λ k lt. c.loop-place.invariant k (omega (arith, c.loop-place-test.false)))
