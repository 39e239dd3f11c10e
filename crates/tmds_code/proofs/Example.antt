-- The character of the byte 0 at disparity -2: 0x3ff, inverted.
use Rattle.std.proofs.Common.{refl, arith}
use Rattle.std.specs.Prelude.{negsuc}
use Rattle.tmds_word.specs.Bits.{bits_of, number, ones, zeros, balance}
use Rattle.tmds_code.specs.Coding.{Coded, takes_xnor, minimised, balanced, coded_bits, coded_at}
use Rattle.tmds_code.specs.Laws.{HasExample}

coded : Coded (negsuc 1) 0 0x3ff
unfolding bits_of number ones zeros balance takes_xnor minimised balanced coded_bits coded_at
coded = refl

pub example : HasExample
example = (negsuc 1, 0, 0x3ff, record { small = omega arith; coded = coded })
