-- Bits packed into bytes, eight at a time.
use Rattle.std.proofs.Common.{◌≡◌, ℕ, ◌+◌, ◌*◌, ◌/◌, ◌%◌, ◌^◌, ◌<◌, ◌≤◌, Bool, false, List, [], ◌∷◌, length, take, drop, get_or, ap, ◌∙◌, sym, arith, length-drop}
use mir.Val.{bool_byte}
use Rattle.std.proofs.lemmas.List.{get_or-drop}
use Rattle.tmds_word.specs.Bits.{number, bytes_of}
use Rattle.tmds_word.proofs.Numbers.{number-window}
use Rattle.tmds_word.proofs.Bytes.{bytes_of-places}

number_first : (b : Bool) (xs : List Bool) → number (b ∷ xs) ≡ bool_byte b + 2 * number xs
unfolding number
number_first b xs = grind arith

front_eight : (xs : List Bool) → 8 ≤ length xs → number (take 8 xs)
    ≡ bool_byte (get_or xs 0 false) + 2 * bool_byte (get_or xs 1 false) + 4 * bool_byte (get_or xs 2 false) + 8 * bool_byte (get_or xs 3 false)
    + 16 * bool_byte (get_or xs 4 false) + 32 * bool_byte (get_or xs 5 false) + 64 * bool_byte (get_or xs 6 false) + 128 * bool_byte (get_or xs 7 false)
unfolding number
front_eight (a ∷ (b ∷ (c ∷ (d ∷ (e ∷ (f ∷ (g ∷ (h ∷ xs)))))))) le = omega (arith, number_first)
front_eight [] le = absurd (omega arith)
front_eight (a ∷ []) le = absurd (omega arith)
front_eight (a ∷ (b ∷ [])) le = absurd (omega arith)
front_eight (a ∷ (b ∷ (c ∷ []))) le = absurd (omega arith)
front_eight (a ∷ (b ∷ (c ∷ (d ∷ [])))) le = absurd (omega arith)
front_eight (a ∷ (b ∷ (c ∷ (d ∷ (e ∷ []))))) le = absurd (omega arith)
front_eight (a ∷ (b ∷ (c ∷ (d ∷ (e ∷ (f ∷ [])))))) le = absurd (omega arith)
front_eight (a ∷ (b ∷ (c ∷ (d ∷ (e ∷ (f ∷ (g ∷ []))))))) le = absurd (omega arith)

pub eight_from : (xs : List Bool) (i : ℕ) → i + 8 ≤ length xs → number (take 8 (drop i xs))
    ≡ bool_byte (get_or xs i false) + 2 * bool_byte (get_or xs (i + 1) false) + 4 * bool_byte (get_or xs (i + 2) false) + 8 * bool_byte (get_or xs (i + 3) false)
    + 16 * bool_byte (get_or xs (i + 4) false) + 32 * bool_byte (get_or xs (i + 5) false) + 64 * bool_byte (get_or xs (i + 6) false) + 128 * bool_byte (get_or xs (i + 7) false)
eight_from xs i le =
    let at : (k : ℕ) → bool_byte (get_or (drop i xs) k false) ≡ bool_byte (get_or xs (i + k) false) = λ k. ap bool_byte (get_or-drop i xs k false) in
    let none : i + 0 ≡ i = omega arith in
    let first = at 0 ∙ ap (λ j. bool_byte (get_or xs j false)) none in
    let long : 8 ≤ length (drop i xs) = omega (arith, length-drop i xs) in
    omega (arith, front_eight (drop i xs) long, first, at 1, at 2, at 3, at 4, at 5, at 6, at 7)

-- bytes that have eight bits each, from place to place
pub packed_places : (bits : List Bool) (bytes : List ℕ) → length bytes ≡ 24
    → ((k : ℕ) → k < 24 → get_or bytes k 0 ≡ number (take 8 (drop (8 * k) bits))) → bytes ≡ bytes_of 24 (number bits)
packed_places bits bytes len h =
    let n = number bits in
    let whole : n / 2 ^ 0 ≡ n = omega arith in
    bytes_of-places bytes 24 n 0 len (λ k lt. let at : 0 + 8 * k ≡ 8 * k = omega arith in
    h k lt ∙ number-window (8 * k) 8 bits ∙ ap (λ p. (n / 2 ^ p) % 256) (sym at))
    ∙ ap (bytes_of 24) whole
