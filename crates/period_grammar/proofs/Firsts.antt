-- The first wrong word of a lane, by the mask of its wrong words, and with more words after it.
use Rattle.std.proofs.Common.{◌≡◌, ℕ, zero, suc, ◌+◌, ◌-◌, ◌*◌, ◌^◌, ◌<◌, ◌≤◌, List, [], ◌∷◌, ◌++◌, Bool, true, false, not, cond, length, map, refl, ap, sym, ◌∙◌, arith, ◌==◌, subst, inl, inr, w64}
use Rattle.std.specs.Prelude.{ℤ, pos, ◌+ℤ◌, Option, Some, None}
use Rattle.std.specs.List.{prefix_len}
use Rattle.std.specs.Simd.Lanes.{mask_l}
use Rattle.std.specs.Int.Count.{count_trailing_zeros}
use Rattle.std.proofs.Math.IntN.{+ℤ_assoc, +ℤ_idl, +ℤ_idr}
use Rattle.std.proofs.Math.Pow.{pow_mono}
use Rattle.std.proofs.lemmas.Nat.Bits.{bit_at_above, bit_at-trailing_zeros}
use Rattle.std.proofs.lemmas.Simd.{trailing_mask_l}
use Rattle.std.proofs.lemmas.Bool.{eqb-false, eqb-true, cases_lt}
use Rattle.tmds_word.specs.Bits.{word_bits, ones, balance}
use Rattle.tmds_code.specs.Coding.{coded_word, decoded_byte}
use Rattle.tmds_code.specs.Lanes.{disparity_of}
use Rattle.tmds_code.specs.Sixteen.{wrongs, at_step}
use Rattle.tmds_code.proofs.Steps.{step_low, step_high, step_balance, word_below}
use Rattle.period_grammar.specs.Coding.{is_coded, first_from}
use Rattle.period_grammar.proofs.Bytes.{decoded_below}

own_map : (bs : List Bool) → map (λ (b : Bool). b) bs ≡ bs
own_map [] = refl
own_map (b ∷ bs) = ap (λ cs. b ∷ cs) (own_map bs)

pub length_wrongs : (d : ℤ) (ws : List ℕ) → length (wrongs d ws) ≡ length ws
length_wrongs d [] = refl
length_wrongs d (w ∷ ws) = let e = length_wrongs (d +ℤ balance (word_bits w)) ws in omega (arith, e)

first_by : (c : Bool) (m p n : ℕ) (rest : Option ℕ) → rest ≡ cond (m == 0) None (Some ((n + 1) + p))
    → cond c rest (Some n) ≡ cond ((cond (not c) 1 0 + 2 * m) == 0) None (Some (n + cond (not (not c)) (1 + p) 0))
first_by c m p n rest e = grind arith

first_of : (d : ℤ) (n : ℕ) (ws : List ℕ) → first_from d n ws ≡ cond (mask_l (wrongs d ws) == 0) None (Some (n + prefix_len (λ b. not b) (wrongs d ws)))
first_of d n [] = refl
first_of d n (w ∷ ws) =
    first_by (is_coded d w) (mask_l (wrongs (d +ℤ balance (word_bits w)) ws)) (prefix_len (λ b. not b) (wrongs (d +ℤ balance (word_bits w)) ws)) n _
    (first_of (d +ℤ balance (word_bits w)) (n + 1) ws)

cond_some : (m a b : ℕ) (z : Bool) → (m == 0) ≡ z → (0 < m → a ≡ b) → cond z None (Some a) ≡ cond z None (Some b)
cond_some m a b true e h = refl
cond_some m a b false e h = ap Some (h (let n = eqb-false m 0 e in omega (arith, n)))

pub first_bit : (d : ℤ) (ws : List ℕ) → length ws ≤ 64 → first_from d 0 ws ≡ cond (mask_l (wrongs d ws) == 0) None (Some (count_trailing_zeros 64 (mask_l (wrongs d ws))))
first_bit d ws few =
    let own = own_map (wrongs d ws) in
    let long = length_wrongs d ws in
    let lowest : 0 < mask_l (wrongs d ws) → count_trailing_zeros 64 (mask_l (wrongs d ws)) ≡ prefix_len (λ b. not b) (wrongs d ws) =
    subst (λ (bs : List Bool). 0 < mask_l bs → count_trailing_zeros 64 (mask_l bs) ≡ prefix_len (λ b. not b) (wrongs d ws)) own
    (trailing_mask_l (λ (b : Bool). b) 64 (wrongs d ws) (omega (arith, long))) in
    first_of d 0 ws
    ∙ cond_some (mask_l (wrongs d ws)) (0 + prefix_len (λ b. not b) (wrongs d ws)) (count_trailing_zeros 64 (mask_l (wrongs d ws))) (mask_l (wrongs d ws) == 0) refl
    (λ l. let e = lowest l in omega (arith, e))

pub first_none : (m : ℕ) (d : ℤ) (ws : List ℕ) → length ws ≤ 64 → m ≡ mask_l (wrongs d ws) → (m == 0) ≡ true → None ≡ first_from d 0 ws
first_none m d ws few e z = sym (first_bit d ws few ∙ (ap (λ n. cond (n == 0) None (Some (count_trailing_zeros 64 n))) (sym e) ∙ ap (λ p. cond p None (Some (count_trailing_zeros 64 m))) z))

pub first_some : (m : ℕ) (d : ℤ) (ws : List ℕ) → length ws ≤ 64 → m ≡ mask_l (wrongs d ws) → (m == 0) ≡ false → Some (count_trailing_zeros 64 m) ≡ first_from d 0 ws
first_some m d ws few e z = sym (first_bit d ws few ∙ (ap (λ n. cond (n == 0) None (Some (count_trailing_zeros 64 n))) (sym e) ∙ ap (λ p. cond p None (Some (count_trailing_zeros 64 m))) z))

pub not_zero : (m : ℕ) → (m ≡ 0 → ⊥) → (m == 0) ≡ false
not_zero zero h = absurd (h refl)
not_zero (suc m) h = grind arith

-- the first wrong word of words, and of more after them
pub then_first : Option ℕ → Option ℕ → Option ℕ
then_first (Some i) more = Some i
then_first None more = more

by_coded : (c : Bool) (n : ℕ) (a b more : Option ℕ) → a ≡ then_first b more → cond c a (Some n) ≡ then_first (cond c b (Some n)) more
unfolding then_first
by_coded true n a b more e = e
by_coded false n a b more e = refl

first_append : (ws vs : List ℕ) (d : ℤ) (n : ℕ) → first_from d n (ws ++ vs) ≡ then_first (first_from d n ws) (first_from (d +ℤ disparity_of ws) (n + length ws) vs)
unfolding then_first disparity_of
first_append [] vs d n =
    let e : n ≡ n + 0 = omega arith in
    ap (λ m. first_from d m vs) e ∙ ap (λ z. first_from z (n + 0) vs) (sym (+ℤ_idr d))
first_append (w ∷ ws) vs d n =
    let e : (n + 1) + length ws ≡ n + length (w ∷ ws) = omega arith in
    by_coded (is_coded d w) n _ _ _
    (first_append ws vs (d +ℤ balance (word_bits w)) (n + 1)
    ∙ (ap (λ m. then_first (first_from (d +ℤ balance (word_bits w)) (n + 1) ws) (first_from ((d +ℤ balance (word_bits w)) +ℤ disparity_of ws) m vs)) e
    ∙ ap (λ z. then_first (first_from (d +ℤ balance (word_bits w)) (n + 1) ws) (first_from z (n + length (w ∷ ws)) vs)) (+ℤ_assoc d (balance (word_bits w)) (disparity_of ws))))

-- places counted from another number
moved : Option ℕ → ℕ → Option ℕ
moved None n = None
moved (Some i) n = Some (n + i)

moved_by : (c : Bool) (n m : ℕ) (a b : Option ℕ) → a ≡ moved b n → cond c a (Some (n + m)) ≡ moved (cond c b (Some m)) n
unfolding moved
moved_by true n m a b e = e
moved_by false n m a b e = refl

first_moved : (vs : List ℕ) (d : ℤ) (n m : ℕ) → first_from d (n + m) vs ≡ moved (first_from d m vs) n
unfolding moved
first_moved [] d n m = refl
first_moved (w ∷ vs) d n m =
    let e : (n + m) + 1 ≡ n + (m + 1) = omega arith in
    moved_by (is_coded d w) n m _ _ (ap (λ k. first_from (d +ℤ balance (word_bits w)) k vs) e ∙ first_moved vs (d +ℤ balance (word_bits w)) n (m + 1))

joined : (ws vs : List ℕ) (at : ℕ) → at ≡ length ws → first_from (pos 0) 0 (ws ++ vs) ≡ then_first (first_from (pos 0) 0 ws) (moved (first_from (disparity_of ws) 0 vs) at)
joined ws vs at e =
    let l : 0 + length ws ≡ at + 0 = omega arith in
    first_append ws vs (pos 0) 0
    ∙ (ap (λ z. then_first (first_from (pos 0) 0 ws) (first_from z (0 + length ws) vs)) (+ℤ_idl (disparity_of ws))
    ∙ (ap (λ m. then_first (first_from (pos 0) 0 ws) (first_from (disparity_of ws) m vs)) l
    ∙ ap (λ o. then_first (first_from (pos 0) 0 ws) o) (first_moved vs (disparity_of ws) at 0)))

-- one that was wrong before stays the first
pub first_kept : (ws vs : List ℕ) (i : ℕ) → first_from (pos 0) 0 ws ≡ Some i → first_from (pos 0) 0 (ws ++ vs) ≡ Some i
unfolding then_first
first_kept ws vs i e = joined ws vs (length ws) refl ∙ ap (λ o. then_first o (moved (first_from (disparity_of ws) 0 vs) (length ws))) e

-- else it is the first of those that come
pub first_comes : (ws vs : List ℕ) (at i : ℕ) → at ≡ length ws → first_from (pos 0) 0 ws ≡ None → first_from (disparity_of ws) 0 vs ≡ Some i → first_from (pos 0) 0 (ws ++ vs) ≡ Some (at + i)
unfolding then_first moved
first_comes ws vs at i l e f =
    joined ws vs at l ∙ (ap (λ o. then_first o (moved (first_from (disparity_of ws) 0 vs) at)) e ∙ ap (λ o. moved o at) f)

pub none_comes : (ws vs : List ℕ) (at : ℕ) → at ≡ length ws → first_from (pos 0) 0 ws ≡ None → first_from (disparity_of ws) 0 vs ≡ None → first_from (pos 0) 0 (ws ++ vs) ≡ None
unfolding then_first moved
none_comes ws vs at l e f =
    joined ws vs at l ∙ (ap (λ o. then_first o (moved (first_from (disparity_of ws) 0 vs) at)) e ∙ ap (λ o. moved o at) f)

-- A lane without a wrong word has a step from 0 to 8.

-- the step after a word that is right
record IsNext (k w : ℕ) : Type 0 where
  pub low : 5 ≤ k + ones (word_bits w)
  pub high : k + ones (word_bits w) ≤ 13
  pub balance : at_step (k + ones (word_bits w) - 5) ≡ at_step k +ℤ balance (word_bits w)

next_of : (k b w : ℕ) → k ≤ 8 → b < 256 → w ≡ coded_word (at_step k) b → IsNext k w
next_of k b w le lt e =
    let low = subst (λ v. 5 ≤ k + ones (word_bits v)) (sym e) (step_low k b le lt) in
    let high = subst (λ v. k + ones (word_bits v) ≤ 13) (sym e) (step_high k b le lt) in
    let small = subst (λ v. v < 1024) (sym e) (word_below k b lt) in
    record { low = low; high = high; balance = step_balance k w small low }

next_is : (k w : ℕ) → k ≤ 8 → is_coded (at_step k) w ≡ true → IsNext k w
unfolding is_coded
next_is k w le right = next_of k (decoded_byte w) w le (decoded_below w) (eqb-true w (coded_word (at_step k) (decoded_byte w)) right)

none_first : (c : Bool) (a : Option ℕ) (n : ℕ) → cond c a (Some n) ≡ None → (c ≡ true) × (a ≡ None)
none_first true a n e = (refl, e)
none_first false a n e = cc

pub record HasStep (d : ℤ) : Type 0 where
  pub step : ℕ
  pub within : step ≤ 8
  pub is : d ≡ at_step step

still_right : (ws : List ℕ) (k n : ℕ) → k ≤ 8 → first_from (at_step k) n ws ≡ None → HasStep (at_step k +ℤ disparity_of ws)
unfolding disparity_of
still_right [] k n le none = record { step = k; within = le; is = +ℤ_idr (at_step k) }
still_right (w ∷ ws) k n le none =
    let first = none_first (is_coded (at_step k) w) _ n none in
    let next = next_is k w le first.0 in
    let low = next.low in
    let high = next.high in
    let rest = still_right ws (k + ones (word_bits w) - 5) (n + 1) (omega (arith, low, high)) (ap (λ d. first_from d (n + 1) ws) next.balance ∙ first.1) in
    record {
      step = rest.step;
      within = rest.within;
      is = sym (+ℤ_assoc (at_step k) (balance (word_bits w)) (disparity_of ws)) ∙ (ap (λ d. d +ℤ disparity_of ws) (sym next.balance) ∙ rest.is);
    }

pub right_step : (ws : List ℕ) → first_from (pos 0) 0 ws ≡ None → HasStep (disparity_of ws)
right_step ws none =
    let has = still_right ws 4 0 (omega arith) none in
    record { step = has.step; within = has.within; is = sym (+ℤ_idl (disparity_of ws)) ∙ has.is }

-- the lowest bit of a mask of few places
one_or_none : (n : ℕ) → n ≡ 1 → n ≡ 0 → ⊥
one_or_none n e f = cc

pub lowest_below : (m n : ℕ) → (m ≡ 0 → ⊥) → n ≤ 64 → m < 2 ^ n → count_trailing_zeros 64 m < n
lowest_below m n some few below =
    let most : 2 ^ n ≤ 2 ^ 64 = pow_mono few in
    let lowest = bit_at-trailing_zeros w64 m (omega (arith, some)) (omega (arith, below, most)) in
    elim (cases_lt (count_trailing_zeros 64 m) n) [
      | inl less ↦ less
      | inr more ↦ absurd (one_or_none _ lowest.1 (bit_at_above m n (count_trailing_zeros 64 m) below (omega (arith, more))))
    ]
