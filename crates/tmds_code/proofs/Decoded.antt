-- What the vectors compute is the byte of the character.
use Rattle.std.proofs.Common.{◌≡◌, ℕ, suc, ◌/◌, ◌%◌, ◌<◌, List, [], ◌∷◌, Bool, true, ◌==◌, length, get_or, map, refl, eqb-true, ap₂, ◌∙◌, arith}
use Rattle.tmds_word.specs.Bits.{bits_of, word_bits, number}
use Rattle.tmds_word.proofs.Below.{passes_below, passes_at}
use Rattle.tmds_code.specs.Coding.{decoded_byte, decoded_bits}
use Rattle.tmds_code.specs.Vectors.{HasLanes, lane_byte}
use Rattle.tmds_code.specs.Sixteen.{AreWords}

decodes : ℕ → Bool
decodes w = lane_byte (w % 256) (w / 256) == decoded_byte w

all_decode : passes_below 1024 decodes ≡ true
unfolding passes_below decodes decoded_byte decoded_bits word_bits bits_of number
all_decode = refl

decoded_is : (w : ℕ) → w < 1024 → lane_byte (w % 256) (w / 256) ≡ decoded_byte w
unfolding decodes
decoded_is w lt = eqb-true _ _ (passes_at 1024 decodes w all_decode lt)

same : (v ws : List ℕ) → length v ≡ length ws → ((k : ℕ) → k < length v → get_or v k 0 ≡ decoded_byte (get_or ws k 0)) → v ≡ map decoded_byte ws
same [] [] e each = refl
same [] (w ∷ ws) e each = absurd (omega arith)
same (x ∷ v) [] e each = absurd (omega arith)
same (x ∷ v) (w ∷ ws) e each = ap₂ (λ y ys. y ∷ ys) (each 0 (omega arith)) (same v ws (omega arith) (λ k l. each (suc k) (omega arith)))

pub bytes_are : (ws low high bytes : List ℕ) → AreWords ws low high → HasLanes bytes (λ k. lane_byte (get_or low k 0) (get_or high k 0)) → bytes ≡ map decoded_byte ws
bytes_are ws low high bytes words has =
    let long = has.long in
    let ws_long = words.long in
    same bytes ws (omega (arith, long, ws_long)) (λ k l.
    let m : k < 16 = omega (arith, long) in
    has.each k m ∙ ((λ i. lane_byte (words.lows k m i) (words.highs k m i)) ∙ decoded_is (get_or ws k 0) (words.small k m)))
