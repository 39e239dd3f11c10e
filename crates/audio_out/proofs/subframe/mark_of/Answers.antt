use Rattle.std.proofs.Common.{◌≡◌, ap, ◌∙◌}
use Rattle.tmds_word.specs.Bits.{bits_of}
use Rattle.audio_out.specs.declared.subframe.Mark.TheVariants.{B, M, W}
use Rattle.audio_out.proofs.Marked.{mark_byte, mark_bits, marked_byte}
use Rattle.audio_out.proofs.subframe.mark_of.Goals as goal

pub returns-then-byte-eq23 : goal.returns-then-byte-eq23
returns-then-byte-eq23 c = ap (bits_of 8) c.if-byte-eq23.true ∙ mark_bits B

pub returns-then-byte-eq71 : goal.returns-then-byte-eq71
returns-then-byte-eq71 c = ap (bits_of 8) c.if-byte-eq71.true ∙ mark_bits M

pub returns-then-byte-eq39 : goal.returns-then-byte-eq39
returns-then-byte-eq39 c = ap (bits_of 8) c.if-byte-eq39.true ∙ mark_bits W

pub returns-else-byte-eq39 : goal.returns-else-byte-eq39
returns-else-byte-eq39 c = λ mark h.
    let e = marked_byte c.args.byte mark c.ranges.byte.fits h in
    elim mark as (λ m. c.args.byte ≡ mark_byte m → ⊥) [ B ↦ c.if-byte-eq23.false | M ↦ c.if-byte-eq71.false | W ↦ c.if-byte-eq39.false ] e
