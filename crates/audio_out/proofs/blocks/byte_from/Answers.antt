use Rattle.std.proofs.Common.{◌+◌, ◌*◌, sym, ◌∙◌, arith}
use Rattle.audio_out.proofs.Packed.{eight_from}
use Rattle.audio_out.proofs.blocks.byte_from.Goals as goal

pub returns : goal.returns
returns c =
    let whole = eight_from c.args.bits.now c.args.from (omega (arith, c.told-bits)) in
    (λ k. c.from.ensures k + 2 * c.from-2.ensures k + 4 * c.from-3.ensures k + 8 * c.from-4.ensures k + 16 * c.from-5.ensures k
    + 32 * c.from-6.ensures k + 64 * c.from-7.ensures k + 128 * c.from-8.ensures k)
    ∙ sym whole
