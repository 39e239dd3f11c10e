-- Which verdict holds of a list of up to 64 bits.
use Rattle.std.proofs.Common.{◌≡◌, ◌≢◌, ℕ, suc, zero, ◌-◌, ◌<◌, ◌≤◌, Bool, List, length, refl, ap, ◌∙◌, sym, subst, arith}
use Rattle.bch_block.specs.Bits.{flipped, differences}
use Rattle.bch_block.specs.Block.{IsBlock}
use Rattle.bch_block.specs.Division.{Remainder, nothing, remainder, power}
use Rattle.bch_block.specs.Repair.{IsVerdict, Repairs}
use Rattle.bch_block.specs.declared.Verdict.{Verdict}
use Rattle.bch_block.specs.declared.Verdict.TheVariants.{Clean, Mended, Lost}
use Rattle.bch_block.proofs.Quotient.{remainder_of_block, is_block}
use Rattle.bch_block.proofs.Sums.{plus, plus-self, equal_remainders, nothing-plus, remainder_from-flipped}
use Rattle.bch_block.proofs.Distances.{length-flipped, flipped-flipped, differences-self, differences-flipped, same_without_differences, Difference, difference}
use Rattle.bch_block.proofs.Powers.{distinct, one_power, three_powers}

-- how many bits stand after bit i
abbrev after : List Bool → ℕ → ℕ
after x i = length x - suc i

remainder-flipped : (x : List Bool) (i : ℕ) → i < length x → remainder (flipped x i) ≡ plus (remainder x) (power (after x i))
remainder-flipped x i lt = remainder_from-flipped x nothing i (after x i) (omega arith)

-- a block where a difference has been turned over
remainder_by_difference : (x y : List Bool) (n : ℕ) (d : Difference x y n) → remainder (flipped x d.place) ≡ plus (remainder x) (power d.after)
remainder_by_difference x y n d = remainder_from-flipped x nothing d.place d.after d.inside

-- the remainder decides
pub clean : (x : List Bool) → 8 ≤ length x → remainder x ≡ nothing → IsVerdict x Clean
clean x long e = is_block x long e

pub mended : (x : List Bool) (i : ℕ) → 8 ≤ length x → length x ≤ 64 → i < length x → remainder x ≡ power (after x i) → IsVerdict x (Mended i)
mended x i long short lt e = grind (arith, one_power, remainder_of_block, is_block, length-flipped, remainder-flipped, plus, plus-self)

lost_at : (x y : List Bool) (n : ℕ) → differences x y ≡ n → remainder x ≢ nothing → ((k : ℕ) → k < length x → remainder x ≢ power k) → IsBlock y → length y ≡ length x → 2 ≤ n
lost_at x y zero e none other b same =
    absurd (none (ap remainder (sym (same_without_differences x y same e)) ∙ remainder_of_block y b))
lost_at x y (suc zero) e none other b same =
    let d = difference x y 0 same e in
    let f = flipped x d.place in
    let is : y ≡ f = same_without_differences f y (same ∙ sym (length-flipped x d.place)) d.fewer in
    let zero_sum : plus (remainder x) (power d.after) ≡ nothing =
    sym (remainder_by_difference x y 0 d) ∙ ap remainder (sym is) ∙ remainder_of_block y b in
    absurd (other d.after (omega (arith, d.inside)) (equal_remainders (remainder x) (power d.after) zero_sum))
lost_at x y (suc (suc n)) e none other b same = omega arith

pub lost : (x : List Bool) → remainder x ≢ nothing → ((k : ℕ) → k < length x → remainder x ≢ power k) → IsVerdict x Lost
lost x none other y b same = lost_at x y (differences x y) refl none other b same

-- two verdicts on one list are the same
mended_once : (x : List Bool) (i j : ℕ) → length x ≤ 64 → i < length x → j < length x → IsBlock (flipped x i) → IsBlock (flipped x j) → i ≡ j
mended_once x i j short li lj bi bj =
    let ei = equal_remainders (remainder x) (power (after x i)) (sym (remainder-flipped x i li) ∙ remainder_of_block (flipped x i) bi) in
    let ej = equal_remainders (remainder x) (power (after x j)) (sym (remainder-flipped x j lj) ∙ remainder_of_block (flipped x j) bj) in
    let same : after x i ≡ after x j = distinct (after x i) (after x j) (omega arith) (omega arith) (sym ei ∙ ej) in
    omega arith

clean_or_lost : (x : List Bool) → IsBlock x → IsVerdict x Lost → ⊥
clean_or_lost x b l = let far = l x b refl in omega (arith, differences-self x)

mended_or_lost : (x : List Bool) (i : ℕ) → IsVerdict x (Mended i) → IsVerdict x Lost → ⊥
mended_or_lost x i m l = let far = l (flipped x i) m.2 (length-flipped x i) in omega (arith, differences-flipped x i m.1)

pub one_verdict : (x : List Bool) (v w : Verdict) → length x ≤ 64 → IsVerdict x v → IsVerdict x w → v ≡ w
one_verdict x Clean Clean short hv hw = refl
one_verdict x Clean (Mended j) short hv hw = absurd (hw.0 hv)
one_verdict x Clean Lost short hv hw = absurd (clean_or_lost x hv hw)
one_verdict x (Mended i) Clean short hv hw = absurd (hv.0 hw)
one_verdict x (Mended i) (Mended j) short hv hw = ap (λ k. Mended k) (mended_once x i j short hv.1 hw.1 hv.2 hw.2)
one_verdict x (Mended i) Lost short hv hw = absurd (mended_or_lost x i hv hw)
one_verdict x Lost Clean short hv hw = absurd (clean_or_lost x hw hv)
one_verdict x Lost (Mended j) short hv hw = absurd (mended_or_lost x j hw hv)
one_verdict x Lost Lost short hv hw = refl

-- one bit of a block turned over leaves its power of x, two leave the sum
one_leaves : (x : List Bool) (i : ℕ) → IsBlock x → i < length x → remainder (flipped x i) ≡ power (after x i)
one_leaves x i b lt = grind (arith, remainder-flipped, plus, remainder_of_block, nothing-plus)

two_leave : (x : List Bool) (i j : ℕ) → IsBlock x → i < length x → j < length x → remainder (flipped (flipped x i) j) ≡ plus (power (after x i)) (power (after x j))
two_leave x i j b li lj =
    remainder_from-flipped (flipped x i) nothing j (after x j) (omega (arith, length-flipped x i))
    ∙ ap (λ (r : Remainder). plus r (power (after x j))) (one_leaves x i b li)

pub one_wrong : (x : List Bool) (i : ℕ) → length x ≤ 64 → IsBlock x → i < length x → IsVerdict (flipped x i) (Mended i)
one_wrong x i short b lt = (
  λ other. one_power (after x i) (omega arith) (sym (one_leaves x i b lt) ∙ remainder_of_block (flipped x i) other),
  omega (arith, length-flipped x i),
  subst IsBlock (sym (flipped-flipped x i)) b,
)

pub two_wrong : (x : List Bool) (i j : ℕ) → length x ≤ 64 → IsBlock x → i < length x → j < length x → i ≢ j → IsVerdict (flipped (flipped x i) j) Lost
two_wrong x i j short b li lj apart =
    let z = flipped (flipped x i) j in
    let leaves = two_leave x i j b li lj in
    let same : length z ≡ length x = length-flipped (flipped x i) j ∙ length-flipped x i in
    lost z
    (λ none.
    let e : after x i ≡ after x j =
    distinct (after x i) (after x j) (omega arith) (omega arith)
    (equal_remainders (power (after x i)) (power (after x j)) (sym leaves ∙ none)) in
    apart (omega arith))
    (λ k lk e.
    three_powers (after x i) (after x j) k (omega arith) (omega arith) (omega arith)
    (ap (λ (r : Remainder). plus r (power k)) (sym leaves ∙ e) ∙ plus-self (power k)))

-- two unlike blocks differ in four places at least: one place leaves a power, two a sum of two, three a sum of three
first_leaves : (x y : List Bool) (n : ℕ) (d : Difference x y n) → IsBlock x → remainder (flipped x d.place) ≡ power d.after
first_leaves x y n d b =
    remainder_by_difference x y n d
    ∙ ap (λ (r : Remainder). plus r (power d.after)) (remainder_of_block x b)
    ∙ nothing-plus (power d.after)

still_one_length : (x y : List Bool) (i : ℕ) → length y ≡ length x → length y ≡ length (flipped x i)
still_one_length x y i same = same ∙ sym (length-flipped x i)

not_one : (x y : List Bool) → length x ≤ 64 → length y ≡ length x → IsBlock x → IsBlock y → differences x y ≡ 1 → ⊥
not_one x y short same bx by e =
    let d = difference x y 0 same e in
    let is : y ≡ flipped x d.place = same_without_differences (flipped x d.place) y (still_one_length x y d.place same) d.fewer in
    one_power d.after (omega (arith, d.inside)) (sym (first_leaves x y 0 d bx) ∙ ap remainder (sym is) ∙ remainder_of_block y by)

not_two : (x y : List Bool) → length x ≤ 64 → length y ≡ length x → IsBlock x → IsBlock y → differences x y ≡ 2 → ⊥
not_two x y short same bx by e =
    let d = difference x y 1 same e in
    let f = flipped x d.place in
    let same_f : length y ≡ length f = still_one_length x y d.place same in
    let d2 = difference f y 0 same_f d.fewer in
    let g = flipped f d2.place in
    let is : y ≡ g = same_without_differences g y (still_one_length f y d2.place same_f) d2.fewer in
    let sum : plus (power d.after) (power d2.after) ≡ nothing =
    sym (remainder_by_difference f y 0 d2 ∙ ap (λ (r : Remainder). plus r (power d2.after)) (first_leaves x y 1 d bx))
    ∙ ap remainder (sym is)
    ∙ remainder_of_block y by in
    let equal : d.after ≡ d2.after =
    distinct d.after d2.after (omega (arith, d.inside)) (omega (arith, d2.inside, length-flipped x d.place))
    (equal_remainders (power d.after) (power d2.after) sum) in
    let again : d2.place ≡ d.place = omega (arith, d.inside, d2.inside, length-flipped x d.place, equal) in
    let back_again : g ≡ x = ap (λ i. flipped f i) again ∙ flipped-flipped x d.place in
    let none : differences x y ≡ 0 = ap (λ z. differences x z) (is ∙ back_again) ∙ differences-self x in
    omega arith

not_three : (x y : List Bool) → length x ≤ 64 → length y ≡ length x → IsBlock x → IsBlock y → differences x y ≡ 3 → ⊥
not_three x y short same bx by e =
    let d = difference x y 2 same e in
    let f = flipped x d.place in
    let same_f : length y ≡ length f = still_one_length x y d.place same in
    let d2 = difference f y 1 same_f d.fewer in
    let g = flipped f d2.place in
    let same_g : length y ≡ length g = still_one_length f y d2.place same_f in
    let d3 = difference g y 0 same_g d2.fewer in
    let h = flipped g d3.place in
    let is : y ≡ h = same_without_differences h y (still_one_length g y d3.place same_g) d3.fewer in
    let two : remainder g ≡ plus (power d.after) (power d2.after) =
    remainder_by_difference f y 1 d2 ∙ ap (λ (r : Remainder). plus r (power d2.after)) (first_leaves x y 2 d bx) in
    let sum : plus (plus (power d.after) (power d2.after)) (power d3.after) ≡ nothing =
    sym (remainder_by_difference g y 0 d3 ∙ ap (λ (r : Remainder). plus r (power d3.after)) two)
    ∙ ap remainder (sym is)
    ∙ remainder_of_block y by in
    three_powers d.after d2.after d3.after
    (omega (arith, d.inside))
    (omega (arith, d2.inside, length-flipped x d.place))
    (omega (arith, d3.inside, length-flipped x d.place, length-flipped f d2.place))
    sum

far_apart : (x y : List Bool) (n : ℕ) → differences x y ≡ n → length x ≤ 64 → length y ≡ length x → IsBlock x → IsBlock y → x ≢ y → 4 ≤ n
far_apart x y zero e short same bx by unlike = absurd (unlike (sym (same_without_differences x y same e)))
far_apart x y (suc zero) e short same bx by unlike = absurd (not_one x y short same bx by e)
far_apart x y (suc (suc zero)) e short same bx by unlike = absurd (not_two x y short same bx by e)
far_apart x y (suc (suc (suc zero))) e short same bx by unlike = absurd (not_three x y short same bx by e)
far_apart x y (suc (suc (suc (suc n)))) e short same bx by unlike = omega arith

pub four_apart : (x y : List Bool) → length x ≤ 64 → length y ≡ length x → IsBlock x → IsBlock y → x ≢ y → 4 ≤ differences x y
four_apart x y short same bx by unlike = far_apart x y (differences x y) refl short same bx by unlike

-- what a repair leaves
pub repairs_alone : (bytes : List ℕ) (v : Verdict) → ((i : ℕ) → v ≢ Mended i) → Repairs bytes bytes v
repairs_alone bytes v h = grind arith
