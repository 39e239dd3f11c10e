-- What is decoded of a word is a byte.
use Rattle.std.proofs.Common.{◌≡◌, ℕ, suc, ◌^◌, ◌<◌, Bool, List, [], ◌∷◌, length, refl, ap, arith}
use Rattle.std.proofs.Math.Seq.{take-length}
use Rattle.tmds_word.specs.Bits.{number, bits_of, word_bits}
use Rattle.tmds_word.proofs.Numbers.{number-take, pow_positive}
use Rattle.tmds_code.specs.Coding.{unchained, restored, decoded_bits, decoded_byte}

pub number_below : (xs : List Bool) → number xs < 2 ^ length xs
number_below xs = grind (arith, pow_positive (length xs), take-length xs, number-take (length xs) xs)

length-unchained : (x b : Bool) (q : List Bool) → length (unchained x b q) ≡ length q
length-unchained x b [] = refl
length-unchained x b (c ∷ q) = ap suc (length-unchained x c q)

length-restored : (x : Bool) (q : List Bool) → length (restored x q) ≡ length q
length-restored x q = grind (arith, length-unchained)

length-decoded : (a b c d e f g h i j : Bool) → length (decoded_bits (a ∷ (b ∷ (c ∷ (d ∷ (e ∷ (f ∷ (g ∷ (h ∷ (i ∷ (j ∷ []))))))))))) ≡ 8
unfolding decoded_bits
length-decoded a b c d e f g h i j = grind (arith, length-restored)

pub decoded_below : (w : ℕ) → decoded_byte w < 256
unfolding decoded_byte word_bits bits_of
decoded_below w = grind (arith, number_below, length-decoded)
