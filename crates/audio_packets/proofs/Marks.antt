-- A mark for each sample in the bits of a byte.
use Rattle.std.proofs.Common.{◌≡◌, ℕ, zero, suc, ◌+◌, ◌*◌, ◌%◌, ◌^◌, ◌<◌, ◌≤◌, Bool, true, false, List, [], ◌∷◌, length, take, get_or, map, refl, ap, ap₂, ◌∙◌, sym, arith, length-take-le}
use mir.Val.{bool_byte}
use Rattle.std.proofs.lemmas.List.{take_more, length-map, map-append}
use Rattle.tmds_word.specs.Bits.{number}
use Rattle.tmds_word.proofs.Numbers.{number-append}

number_one : (mark : Bool) → number (mark ∷ []) ≡ bool_byte mark
unfolding number
number_one mark = grind arith

-- a mark moved to its bit
shifted : (mark : Bool) (i : ℕ) → i < 4 → bool_byte mark * 2 ^ i % 256 ≡ 2 ^ i * bool_byte mark
shifted true zero lt = refl
shifted true (suc zero) lt = refl
shifted true (suc (suc zero)) lt = refl
shifted true (suc (suc (suc zero))) lt = refl
shifted true (suc (suc (suc (suc n)))) lt = absurd (omega arith)
shifted false zero lt = refl
shifted false (suc zero) lt = refl
shifted false (suc (suc zero)) lt = refl
shifted false (suc (suc (suc zero))) lt = refl
shifted false (suc (suc (suc (suc n)))) lt = absurd (omega arith)

-- the marks of one sample more
pub number_more : {X : Type 0} (mark : X → Bool) (xs : List X) (i : ℕ) (d : X) (n : ℕ) → i < length xs → i < 4 → n ≡ number (map mark (take i xs))
    → n + bool_byte (mark (get_or xs i d)) * 2 ^ i % 256 ≡ number (map mark (take (i + 1) xs))
number_more mark xs i d n inside lt e =
    let here = mark (get_or xs i d) in
    let many : length (map mark (take i xs)) ≡ i = length-map (take i xs) mark ∙ length-take-le i xs (omega arith) in
    ap₂ (λ a b. a + b) e (shifted here i lt ∙ ap₂ (λ k m. 2 ^ k * m) (sym many) (sym (number_one here)))
    ∙ sym (number-append (map mark (take i xs)) (here ∷ []))
    ∙ ap number (sym (map-append mark (take i xs) (get_or xs i d ∷ [])))
    ∙ ap (λ ys. number (map mark ys)) (sym (take_more xs i d inside))

-- and they stay below the next bit
pub below_more : (mark : Bool) (i n : ℕ) → i < 4 → n < 2 ^ i → n + bool_byte mark * 2 ^ i % 256 < 2 ^ (i + 1)
below_more true zero n lt b = omega arith
below_more true (suc zero) n lt b = omega arith
below_more true (suc (suc zero)) n lt b = omega arith
below_more true (suc (suc (suc zero))) n lt b = omega arith
below_more true (suc (suc (suc (suc k)))) n lt b = absurd (omega arith)
below_more false zero n lt b = omega arith
below_more false (suc zero) n lt b = omega arith
below_more false (suc (suc zero)) n lt b = omega arith
below_more false (suc (suc (suc zero))) n lt b = omega arith
below_more false (suc (suc (suc (suc k)))) n lt b = absurd (omega arith)

-- below the bit of an absent body, marks have four bits
pub four_bits : (i n : ℕ) → i ≤ 4 → n < 2 ^ i → n < 16
four_bits zero n le b = omega arith
four_bits (suc zero) n le b = omega arith
four_bits (suc (suc zero)) n le b = omega arith
four_bits (suc (suc (suc zero))) n le b = omega arith
four_bits (suc (suc (suc (suc zero)))) n le b = b
four_bits (suc (suc (suc (suc (suc k))))) n le b = absurd (omega arith)
