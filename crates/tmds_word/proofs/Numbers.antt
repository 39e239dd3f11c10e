-- The number of a list of bits, its first bit lowest, when the list is joined, cut and read.
use Rattle.std.proofs.Common.{◌≡◌, ℕ, suc, zero, ◌+◌, ◌*◌, ◌/◌, ◌%◌, ◌^◌, ◌<◌, Bool, true, false, List, [], ◌∷◌, ◌++◌, length, take, drop, get_or, refl, ap, ◌∙◌, sym, arith, zero-add, ◌==◌, drop-cons}
use Rattle.std.specs.Prelude.{slice_get, Some}
use Rattle.std.proofs.Math.Nat.{pow-suc}
use Rattle.std.proofs.lemmas.Nat.{shr-shr, mod-mul-add}
use Rattle.std.proofs.lemmas.Option.{slice_get-get_or}
use Rattle.tmds_word.specs.Bits.{bits_of, number}

pub pow_positive : (k : ℕ) → 0 < 2 ^ k
pow_positive zero = omega arith
pow_positive (suc k) = let h = pow_positive k in rw pow-suc (omega arith)

pub zero_over : (k : ℕ) → 0 / 2 ^ k ≡ 0
zero_over k = let h = pow_positive k in grind (arith, h)

pub half_after : (b n p : ℕ) → b < 2 → (b + 2 * n) / 2 ^ suc p ≡ n / 2 ^ p
half_after b n p lt =
    let h : (b + 2 * n) / 2 ^ 1 ≡ n = omega arith in
    let e : 1 + p ≡ suc p = omega arith in
    rw (← e) (sym (shr-shr (b + 2 * n) 1 p) ∙ ap (λ m. m / 2 ^ p) h)

pub rest_after : (b n k : ℕ) → b < 2 → (b + 2 * n) % 2 ^ suc k ≡ b + 2 * (n % 2 ^ k)
rest_after b n k lt =
    let w = 2 ^ k in
    let pos : 0 < w = pow_positive k in
    let d : w * (n / w) + n % w ≡ n = omega arith in
    let r : n % w < w = omega arith in
    let two : 2 ^ suc k ≡ w * 2 = pow-suc 2 k in
    let below : b + 2 * (n % w) < 2 ^ suc k = omega arith in
    let split : (n / w) * 2 ^ suc k + (b + 2 * (n % w)) ≡ b + 2 * n = rw two (omega arith) in
    ap (λ m. m % 2 ^ suc k) (sym split) ∙ mod-mul-add (n / w) (2 ^ suc k) (b + 2 * (n % w)) below

pub number-append : (xs ys : List Bool) → number (xs ++ ys) ≡ number xs + 2 ^ length xs * number ys
unfolding number
number-append [] ys = omega arith
number-append (true ∷ xs) ys = let ih = number-append xs ys in rw (pow-suc 2 (length xs)) (grind (arith, ih))
number-append (false ∷ xs) ys = let ih = number-append xs ys in rw (pow-suc 2 (length xs)) (grind (arith, ih))

pub number-drop : (p : ℕ) (xs : List Bool) → number (drop p xs) ≡ number xs / 2 ^ p
unfolding number
number-drop zero xs = omega arith
number-drop (suc p) [] = let h = pow_positive (suc p) in grind (arith, h)
number-drop (suc p) (true ∷ xs) = number-drop p xs ∙ sym (half_after 1 (number xs) p (omega arith))
number-drop (suc p) (false ∷ xs) = number-drop p xs ∙ sym (rw zero-add at (half_after 0 (number xs) p (omega arith)))

pub number-take : (k : ℕ) (xs : List Bool) → number (take k xs) ≡ number xs % 2 ^ k
unfolding number
number-take zero xs = omega arith
number-take (suc k) [] = let h = pow_positive (suc k) in grind (arith, h)
number-take (suc k) (true ∷ xs) = let ih = number-take k xs in ap (λ n. 1 + 2 * n) ih ∙ sym (rest_after 1 (number xs) k (omega arith))
number-take (suc k) (false ∷ xs) = let ih = number-take k xs in ap (λ n. 2 * n) ih ∙ sym (simp zero-add at (rest_after 0 (number xs) k (omega arith)))

pub number-window : (p k : ℕ) (xs : List Bool) → number (take k (drop p xs)) ≡ (number xs / 2 ^ p) % 2 ^ k
number-window p k xs = number-take k (drop p xs) ∙ ap (λ n. n % 2 ^ k) (number-drop p xs)

first_of_number : (x : Bool) (xs : List Bool) → (number (x ∷ xs) % 2 == 1) ≡ x
unfolding number
first_of_number x xs = grind arith

-- a bit of a list, from the list's number
pub bit_of_number : (xs : List Bool) (i : ℕ) → i < length xs → get_or xs i false ≡ ((number xs / 2 ^ i) % 2 == 1)
bit_of_number xs i lt =
    sym (ap (λ n. n % 2 == 1) (sym (number-drop i xs) ∙ ap number (drop-cons xs i false lt)) ∙ first_of_number (get_or xs i false) (drop (suc i) xs))

pub slice_get-number : (xs : List Bool) (i : ℕ) → i < length xs → slice_get xs i ≡ Some ((number xs / 2 ^ i) % 2 == 1)
slice_get-number xs i lt = slice_get-get_or xs i false lt ∙ ap Some (bit_of_number xs i lt)

odd_number : (n : ℕ) (xs : List Bool) → n < 2 → number ((n == 1) ∷ xs) ≡ n + 2 * number xs
unfolding number
odd_number n xs h = grind arith

-- the lowest bits of a number are its remainder
pub number-bits_of : (k n : ℕ) → number (bits_of k n) ≡ n % 2 ^ k
unfolding bits_of number
number-bits_of zero n = omega arith
number-bits_of (suc k) n =
    let odd : n % 2 < 2 = omega arith in
    let whole : n % 2 + 2 * (n / 2) ≡ n = omega arith in
    odd_number (n % 2) (bits_of k (n / 2)) odd
    ∙ ap (λ m. n % 2 + 2 * m) (number-bits_of k (n / 2))
    ∙ sym (rest_after (n % 2) (n / 2) k odd)
    ∙ ap (λ m. m % 2 ^ suc k) whole

-- bits are the lowest bits of their number
pub bits_of-number : (xs : List Bool) → bits_of (length xs) (number xs) ≡ xs
unfolding bits_of number
bits_of-number [] = refl
bits_of-number (true ∷ xs) = grind (arith, bits_of-number xs)
bits_of-number (false ∷ xs) = grind (arith, bits_of-number xs)
