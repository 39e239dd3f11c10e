-- The bytes of preambles.
use Rattle.std.proofs.Common.{◌≡◌, ℕ, ◌%◌, ◌^◌, ◌<◌, ap, ◌∙◌, sym, arith}
use Rattle.tmds_word.specs.Bits.{bits_of, number}
use Rattle.tmds_word.proofs.Numbers.{number-bits_of}
use Rattle.audio_out.specs.Subframes.{preamble}
use Rattle.audio_out.specs.declared.subframe.Mark.{Mark}
use Rattle.audio_out.specs.declared.subframe.Mark.TheVariants.{B, M, W}

abbrev pub mark_byte : Mark → ℕ
mark_byte B = 23
mark_byte M = 71
mark_byte W = 39

number_preamble : (mark : Mark) → number (preamble mark) ≡ mark_byte mark
unfolding number preamble
number_preamble mark = grind arith

pub marked_byte : (byte : ℕ) (mark : Mark) → byte < 256 → bits_of 8 byte ≡ preamble mark → byte ≡ mark_byte mark
marked_byte byte mark lt h =
    let whole : byte ≡ byte % 2 ^ 8 = omega arith in
    whole ∙ sym (number-bits_of 8 byte) ∙ ap number h ∙ number_preamble mark

pub mark_bits : (mark : Mark) → bits_of 8 (mark_byte mark) ≡ preamble mark
unfolding bits_of preamble
mark_bits mark = grind arith

same_mark : (a b : Mark) → mark_byte a ≡ mark_byte b → a ≡ b
same_mark a b h = grind arith

-- two preambles are unlike
pub one_mark : (a b : Mark) → preamble a ≡ preamble b → a ≡ b
one_mark a b h = same_mark a b (sym (number_preamble a) ∙ ap number h ∙ number_preamble b)
