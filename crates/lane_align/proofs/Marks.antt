-- Places by marks: from the lowest one to the next.
use Rattle.std.proofs.Common.{◌≡◌, ℕ, min, suc, zero, ◌+◌, ◌-◌, ◌*◌, ◌/◌, ◌%◌, ◌^◌, ◌<◌, ◌≤◌, Bool, true, List, bit_and, ap, subst, ◌∙◌, sym, arith, inl, inr, ◌==◌, eqb-true}
use Rattle.std.specs.Int.{bit_at, trailing_zeros, w64}
use Rattle.std.proofs.lemmas.Bool.{cases_lt}
use Rattle.std.proofs.Math.Pow.{pow_mono}
use Rattle.std.proofs.lemmas.Nat.Bits.{bit_at_and, bit_at-suc, bit_at-lt, bit_at_lowest, bit_at_ones, bit_at_ones_above, bit_at-trailing_zeros}
use Rattle.tmds_word.specs.Bits.{bit}
use Rattle.lane_align.specs.Search.{IsOther}

-- the lowest bits of a number
module _ (n m k : ℕ) (few : m ≤ 16) where
  mask_is : 1 * 2 ^ m % 18446744073709551616 - 1 ≡ 2 ^ m - 1
  mask_is = let most : 2 ^ m ≤ 2 ^ 16 = pow_mono few in omega arith

  masked : bit_at (bit_and n (1 * 2 ^ m % 18446744073709551616 - 1)) k ≡ min (bit_at n k) (bit_at (2 ^ m - 1) k)
  masked = ap (λ l. bit_at (bit_and n l) k) mask_is ∙ bit_at_and n (2 ^ m - 1) k

  pub mark_left : k < m → bit n k ≡ true → bit (bit_and n (1 * 2 ^ m % 18446744073709551616 - 1)) k ≡ true
  mark_left lt set = let one : bit_at n k ≡ 1 = eqb-true _ _ set in let here : bit_at (bit_and n (1 * 2 ^ m % 18446744073709551616 - 1)) k ≡ 1 = omega (arith, masked, bit_at_ones m k lt, one) in ap (λ b. b == 1) here

  pub mark_was : bit (bit_and n (1 * 2 ^ m % 18446744073709551616 - 1)) k ≡ true → (k < m) × (bit n k ≡ true)
  mark_was set =
      let here : bit_at (bit_and n (1 * 2 ^ m % 18446744073709551616 - 1)) k ≡ 1 = eqb-true _ _ set in
      elim (cases_lt k m) [
        | inl lt ↦ let one : bit_at n k ≡ 1 = omega (arith, masked, bit_at_ones m k lt, here) in (lt, ap (λ b. b == 1) one)
        | inr above ↦ let none = bit_at_ones_above m k above in absurd (omega (arith, masked, none, here))
      ]

pub one_of : (a b k : ℕ) → bit (bit_and a b) k ≡ true → bit a k ≡ true
one_of a b k set =
    let both : bit_at (bit_and a b) k ≡ 1 = eqb-true _ _ set in
    let one : bit_at a k ≡ 1 = omega (arith, both, bit_at_and a b k, bit_at-lt a k, bit_at-lt b k) in
    ap (λ b. b == 1) one

-- all bits but the lowest that is set
before_same : (t n i : ℕ) → bit_at n t ≡ 1 → ((j : ℕ) → j < t → bit_at n j ≡ 0) → t < i → bit_at (n - 1) i ≡ bit_at n i
before_same t n zero one none above = absurd (omega arith)
before_same zero n (suc i) one none above =
    let odd = bit_at_lowest n in
    let half : (n - 1) / 2 ≡ n / 2 = omega (arith, odd, one) in
    bit_at-suc (n - 1) i ∙ ap (λ m. bit_at m i) half ∙ sym (bit_at-suc n i)
before_same (suc t) n (suc i) one none above =
    let even = bit_at_lowest n in
    let zero_is = none 0 (omega arith) in
    let half : (n - 1) / 2 ≡ n / 2 - 1 = omega (arith, even, zero_is) in
    bit_at-suc (n - 1) i ∙ ap (λ m. bit_at m i) half
    ∙ before_same t (n / 2) i (sym (bit_at-suc n t) ∙ one) (λ j lt. sym (bit_at-suc n j) ∙ none (suc j) (omega arith)) (omega arith)
    ∙ sym (bit_at-suc n i)

pub others_left : (t n i : ℕ) → bit_at n t ≡ 1 → ((j : ℕ) → j < t → bit_at n j ≡ 0) → t < i → bit n i ≡ true → bit (bit_and n (n - 1)) i ≡ true
others_left t n i one none above set =
    let here : bit_at n i ≡ 1 = eqb-true _ _ set in
    let before = before_same t n i one none above in
    let both : bit_at (bit_and n (n - 1)) i ≡ 1 = omega (arith, bit_at_and n (n - 1) i, before, here) in
    ap (λ b. b == 1) both

-- the places of a stretch from the lowest mark that is left on
module _ (xs : List Bool) (from until phase left : ℕ) (some : 0 < left) (fits : left < 2 ^ 64) (marked : (q : ℕ) → IsOther xs from until phase q → bit left (q - from) ≡ true) where
  abbrev skip : ℕ
  skip = trailing_zeros w64 left

  pub none_before : (q : ℕ) → q < from + skip → IsOther xs from until phase q → ⊥
  none_before q lt other =
      let after = other.after in
      let set : bit_at left (q - from) ≡ 1 = eqb-true _ _ (marked q other) in
      let clear = (bit_at-trailing_zeros w64 left some fits).2 (q - from) (omega arith) in
      omega (arith, set, clear)

  pub lowest_set : bit left skip ≡ true
  lowest_set = ap (λ b. b == 1) (bit_at-trailing_zeros w64 left some fits).1

  pub still_marked : (IsOther xs from until phase (from + skip) → ⊥) → (q : ℕ) → IsOther xs from until phase q → bit (bit_and left (left - 1)) (q - from) ≡ true
  still_marked never q other = elim (cases_lt q (from + skip)) [
    | inl before ↦ absurd (none_before q before other)
    | inr after ↦ elim (cases_lt (from + skip) q) [
      | inl later ↦
          let lowest = bit_at-trailing_zeros w64 left some fits in
          others_left skip left (q - from) lowest.1 lowest.2 (omega arith) (marked q other)
      | inr here ↦ let same : q ≡ from + skip = omega arith in absurd (never (subst (IsOther xs from until phase) same other))
    ]
  ]
