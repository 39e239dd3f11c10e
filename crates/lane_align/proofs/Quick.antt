-- What the quick test says of the places of its stretch.
use Rattle.std.proofs.Common.{◌≡◌, ℕ, ◌+◌, ◌-◌, ◌*◌, ◌/◌, ◌%◌, ◌^◌, ◌<◌, ◌≤◌, min, Bool, true, List, length, take, drop, refl, ap, ap₂, ◌∙◌, sym, subst, arith, bit_and, ◌==◌, eqb-true}
use Rattle.std.specs.Int.{bit_at}
use Rattle.std.proofs.lemmas.Nat.{field_of, shr-shr}
use Rattle.std.proofs.lemmas.Nat.Bits.{bit_at_and}
use Rattle.std.proofs.Math.Pow.{mod-mod-pow}
use Rattle.tmds_word.specs.Bits.{bit, number}
use Rattle.tmds_word.proofs.Numbers.{number-window, zero_over}
use Rattle.terc4.specs.Tables.{is_control}
use Rattle.lane_align.specs.Lanes.{HasControl, IsRun}
use Rattle.lane_align.proofs.Controls.{control_here}
use Rattle.lane_align.proofs.Calm.{control_is}
use Rattle.lane_align.specs.Search.{control_at}

-- the window of a list in the 64 bits from a place on
pub window_within : (xs : List Bool) (c m : ℕ) → m ≤ 54 → number xs / 2 ^ c % 2 ^ 64 / 2 ^ m % 2 ^ 10 ≡ number (take 10 (drop (c + m) xs))
window_within xs c m few =
    let n = number xs / 2 ^ c in
    let j = 54 - m in
    let sum : (j + 10) + m ≡ 64 = omega arith in
    ap (λ e. n % 2 ^ e / 2 ^ m % 2 ^ 10) (sym sum)
    ∙ ap (λ x. x % 2 ^ 10) (field_of n (j + 10) m)
    ∙ mod-mod-pow (n / 2 ^ m) j 10
    ∙ ap (λ x. x % 2 ^ 10) (shr-shr (number xs) c m)
    ∙ sym (number-window (c + m) 10 xs)

-- a run that begins at one of the eighty places up to the tested one
pub quick_some : (P : ℕ → Type 0) (xs : List Bool) (v at phase q : ℕ) → v ≡ number xs / 2 ^ (8 * (10 * at)) % 2 ^ 64
    → ((k : ℕ) → k < 10 → (k ≡ phase → ⊥) → control_at v k ≡ true → control_at v (k + 10) ≡ true → control_at v (k + 20) ≡ true → P k)
    → 80 * at < q + 80 → q ≤ 80 * at → (q % 10 ≡ phase → ⊥) → IsRun xs q → P (q % 10)
quick_some P xs v at phase q e some near before apart run =
    let c = 8 * (10 * at) in
    let j = (80 * at - q + 9) / 10 in
    let k = q + 10 * j - 80 * at in
    let few : k < 10 = omega arith in
    let same : k ≡ q % 10 = omega arith in
    let found : (i : ℕ) → i < 3 → control_at v (k + 10 * i) ≡ true =
    λ i lt.
    let place : c + (k + 10 * i) ≡ q + 10 * (j + i) = omega arith in
    ap (λ x. is_control (x / 2 ^ (k + 10 * i) % 2 ^ 10)) e
    ∙ ap is_control (window_within xs c (k + 10 * i) (omega arith) ∙ ap (λ m. number (take 10 (drop m xs))) place)
    ∙ control_is xs (q + 10 * (j + i)) (run (j + i) (omega arith)) in
    let zero_of : k + 10 * 0 ≡ k = omega arith in
    subst P same (some k few (λ h. apart (omega arith)) (subst (λ m. control_at v m ≡ true) zero_of (found 0 (omega arith))) (found 1 (omega arith)) (found 2 (omega arith)))

pub quick_none : (xs : List Bool) (v at phase q : ℕ) → v ≡ number xs / 2 ^ (8 * (10 * at)) % 2 ^ 64
    → ((k : ℕ) → k < 10 → (k ≡ phase → ⊥) → control_at v k ≡ true → control_at v (k + 10) ≡ true → control_at v (k + 20) ≡ true → ⊥)
    → 80 * at < q + 80 → q ≤ 80 * at → (q % 10 ≡ phase → ⊥) → IsRun xs q → ⊥
quick_none xs v at phase q e none near before apart run = quick_some (λ k. ⊥) xs v at phase q e none near before apart run

is_one : (n k : ℕ) → bit n k ≡ true → bit_at n k ≡ 1
is_one n k h = eqb-true _ _ h

bit_over : (n s k : ℕ) → bit_at (n / 2 ^ s) k ≡ bit_at n (s + k)
bit_over n s k = ap (λ x. x % 2) (shr-shr n s k)

one_bit : (n k : ℕ) → bit_at n k ≡ 1 → bit n k ≡ true
one_bit n k h = ap (λ x. x == 1) h

-- places at which three begin, and a bit of the mask
pub all_left : (c m k : ℕ) → bit c k ≡ true → bit c (k + 10) ≡ true → bit c (k + 20) ≡ true → bit m k ≡ true
    → bit (bit_and (bit_and (bit_and c (c / 2 ^ 10)) (c / 2 ^ 20)) m) k ≡ true
all_left c m k one ten twenty mask =
    let f : 10 + k ≡ k + 10 = omega arith in
    let g : 20 + k ≡ k + 20 = omega arith in
    let a : bit_at (c / 2 ^ 10) k ≡ 1 = bit_over c 10 k ∙ ap (bit_at c) f ∙ is_one c (k + 10) ten in
    let b : bit_at (c / 2 ^ 20) k ≡ 1 = bit_over c 20 k ∙ ap (bit_at c) g ∙ is_one c (k + 20) twenty in
    one_bit (bit_and (bit_and (bit_and c (c / 2 ^ 10)) (c / 2 ^ 20)) m) k
    (bit_at_and (bit_and (bit_and c (c / 2 ^ 10)) (c / 2 ^ 20)) m k
    ∙ ap₂ min (bit_at_and (bit_and c (c / 2 ^ 10)) (c / 2 ^ 20) k ∙ ap₂ min (bit_at_and c (c / 2 ^ 10) k ∙ ap₂ min (is_one c k one) a) b) (is_one m k mask))

pub none_marked : (k : ℕ) → bit 0 k ≡ true → ⊥
none_marked k h = grind (arith, zero_over, is_one)

-- Four words in a row, at each of sixteen places.

-- one of them, of 64 bits from a byte on
pub four_control : (xs : List Bool) (v p i k n : ℕ) → i < 16 → k < 4 → p + i + 40 ≤ length xs → v ≡ number xs / 2 ^ (8 * (p / 8)) % 2 ^ 64
    → bit n (i + 10 * k) ≡ control_at (v / 2 ^ (p % 8)) (i + 10 * k)
    → (bit n (i + 10 * k) ≡ true → HasControl xs (p + i + 10 * k)) × (HasControl xs (p + i + 10 * k) → bit n (i + 10 * k) ≡ true)
four_control xs v p i k n near lt room e is =
    let at = 8 * (p / 8) in
    let m = i + 10 * k in
    let here = p + i + 10 * k in
    let place : at + (p % 8 + m) ≡ here = omega arith in
    let w : number xs / 2 ^ at % 2 ^ 64 / 2 ^ (p % 8) / 2 ^ m % 2 ^ 10 ≡ number (take 10 (drop here xs)) =
    ap (λ x. x % 2 ^ 10) (shr-shr (number xs / 2 ^ at % 2 ^ 64) (p % 8) m) ∙ window_within xs at (p % 8 + m) (omega arith) ∙ ap (λ j. number (take 10 (drop j xs))) place in
    control_here xs here (number (take 10 (drop here xs))) (bit n m) (λ short. omega arith) refl
    (is ∙ ap (λ x. is_control (x / 2 ^ (p % 8) / 2 ^ m % 2 ^ 10)) e ∙ ap is_control w)

-- what the code computes of the places of control words
abbrev pub four : ℕ → ℕ
four c = bit_and (bit_and (bit_and c (c / 2 ^ 10)) (c / 2 ^ 20)) (c / 2 ^ 30)

four_at : (c i : ℕ) → bit_at (four c) i ≡ min (min (min (bit_at c (i + 10 * 0)) (bit_at c (i + 10 * 1))) (bit_at c (i + 10 * 2))) (bit_at c (i + 10 * 3))
four_at c i =
    let none : i ≡ i + 10 * 0 = omega arith in
    bit_at_and (bit_and (bit_and c (c / 2 ^ 10)) (c / 2 ^ 20)) (c / 2 ^ 30) i
    ∙ ap₂ min (bit_at_and (bit_and c (c / 2 ^ 10)) (c / 2 ^ 20) i ∙ ap₂ min (bit_at_and c (c / 2 ^ 10) i ∙ ap₂ min (ap (bit_at c) none) (after 1)) (after 2)) (after 3)
  where
    after : (k : ℕ) → bit_at (c / 2 ^ (10 * k)) i ≡ bit_at c (i + 10 * k)
    after k = let e : 10 * k + i ≡ i + 10 * k = omega arith in bit_over c (10 * k) i ∙ ap (bit_at c) e

pub four_ones : (c i : ℕ) → bit (four c) i ≡ true → (k : ℕ) → k < 4 → bit c (i + 10 * k) ≡ true
four_ones c i set k lt = grind (arith, one_bit, four_at, is_one)

pub ones_four : (c i : ℕ) → ((k : ℕ) → k < 4 → bit c (i + 10 * k) ≡ true) → bit (four c) i ≡ true
ones_four c i all =
    let one = λ (k : ℕ) (lt : k < 4). is_one c (i + 10 * k) (all k lt) in
    one_bit (four c) i (four_at c i ∙ ap₂ min (ap₂ min (ap₂ min (one 0 (omega arith)) (one 1 (omega arith))) (one 2 (omega arith))) (one 3 (omega arith)))
