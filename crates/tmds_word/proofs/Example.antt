-- Two parts and a character that meet the premises of the laws of turns.
use Rattle.std.proofs.Common.{◌≡◌, ℕ, ◌<◌, Bool, true, false, List, [], ◌∷◌, length, refl, arith, slice_index_or}
use Rattle.tmds_word.specs.Bits.{turns, unlike, word_bits, bits_of}
use Rattle.tmds_word.specs.Cuts.{IsCalmPart, HasExample}

parts : List (List Bool)
parts = (true ∷ false ∷ true ∷ []) ∷ (true ∷ []) ∷ []

first : IsCalmPart (true ∷ false ∷ true ∷ [])
unfolding turns unlike
first = record { some = omega arith; few = omega arith }

second : IsCalmPart (true ∷ [])
unfolding turns
second = record { some = omega arith; few = omega arith }

calm : (k : ℕ) → k < 2 → IsCalmPart (slice_index_or parts k [])
unfolding parts turns unlike
calm k h = grind (arith, second)

five : turns (word_bits 1002) ≡ 5
unfolding turns unlike word_bits bits_of
five = refl

two : length parts ≡ 2
unfolding parts
two = refl

pub example : HasExample
example = let l = two in (parts, 1002, record { several = omega arith; calm = λ k lt. calm k (omega arith); five = five })
