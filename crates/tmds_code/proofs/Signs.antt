-- What the vectors judge depends on the sign of the disparity alone, and is right at every one.
use Rattle.std.proofs.Common.{◌≡◌, ℕ, zero, suc, ◌*◌, ◌/◌, ◌%◌, ◌<◌, Bool, true, false, not, refl, arith, eqb-true, ap, sym, ◌∙◌, ◌==◌, ltb, nat_lt}
use Rattle.std.specs.Prelude.{ℤ, pos, negsuc, ◌-ℤ◌}
use Rattle.std.proofs.lemmas.Int.{ints}
use Rattle.std.proofs.lemmas.Bool.{ltb-true, ltb-false, eqb-false}
use Rattle.tmds_word.specs.Bits.{bits_of, word_bits, number, ones, zeros, balance}
use Rattle.tmds_code.specs.Coding.{Sign, negative, null, positive, sign_of, coded_at, coded_bits, balanced, minimised, takes_xnor, decoded_byte, decoded_bits, is_coded}
use Rattle.tmds_word.proofs.Below.{passes_below, passes_at}
use Rattle.tmds_code.specs.Vectors.{lane_right, lane_counts, right_by}

same : Bool → Bool → Bool
same true b = b
same false b = not b

judged : Sign → Bool → Bool → ℕ → Bool
judged s n z w = same (ltb (right_by (w % 256) (w / 256) (lane_counts (w % 256)) n z) 128) (not (w == coded_at s (decoded_byte w)))

at_negative : passes_below 1024 (judged negative true false) ≡ true
unfolding passes_below judged same coded_at coded_bits balanced minimised takes_xnor decoded_byte decoded_bits bits_of word_bits number ones zeros balance
at_negative = refl

at_null : passes_below 1024 (judged null false true) ≡ true
unfolding passes_below judged same coded_at coded_bits balanced minimised takes_xnor decoded_byte decoded_bits bits_of word_bits number ones zeros balance
at_null = refl

at_positive : passes_below 1024 (judged positive false false) ≡ true
unfolding passes_below judged same coded_at coded_bits balanced minimised takes_xnor decoded_byte decoded_bits bits_of word_bits number ones zeros balance
at_positive = refl

same_is : (a b : Bool) → same a b ≡ true → a ≡ b
unfolding same
same_is true true h = refl
same_is true false h = cc
same_is false true h = cc
same_is false false h = refl

judged_is : (s : Sign) (n z : Bool) (w : ℕ) → passes_below 1024 (judged s n z) ≡ true → w < 1024
    → ltb (right_by (w % 256) (w / 256) (lane_counts (w % 256)) n z) 128 ≡ not (w == coded_at s (decoded_byte w))
unfolding judged
judged_is s n z w h lt = same_is _ _ (passes_at 1024 (judged s n z) w h lt)

sign_below : (d : ℤ) (b : ℕ) → d ≡ pos (2 * b) -ℤ pos 256 → b < 128 → sign_of d ≡ negative
sign_below (pos zero) b e lt = absurd (omega (arith, ints))
sign_below (pos (suc n)) b e lt = absurd (omega (arith, ints))
sign_below (negsuc n) b e lt = refl

sign_null : (d : ℤ) (b : ℕ) → d ≡ pos (2 * b) -ℤ pos 256 → b ≡ 128 → sign_of d ≡ null
sign_null (pos zero) b e same = refl
sign_null (pos (suc n)) b e same = absurd (omega (arith, ints))
sign_null (negsuc n) b e same = absurd (omega (arith, ints))

sign_above : (d : ℤ) (b : ℕ) → d ≡ pos (2 * b) -ℤ pos 256 → 128 < b → sign_of d ≡ positive
sign_above (pos zero) b e lt = absurd (omega (arith, ints))
sign_above (pos (suc n)) b e lt = refl
sign_above (negsuc n) b e lt = absurd (omega (arith, ints))

wrong_by : (d : ℤ) (b w : ℕ) (n z : Bool) → w < 1024 → d ≡ pos (2 * b) -ℤ pos 256 → nat_lt b 128 ≡ n → (b == 128) ≡ z
    → ltb (right_by (w % 256) (w / 256) (lane_counts (w % 256)) n z) 128 ≡ not (is_coded d w)
unfolding is_coded
wrong_by d b w true true lt e p q = let l = ltb-true b 128 p in let m = eqb-true b 128 q in absurd (omega (arith, l, m))
wrong_by d b w true false lt e p q =
    judged_is negative true false w at_negative lt ∙ ap (λ s. not (w == coded_at s (decoded_byte w))) (sym (sign_below d b e (ltb-true b 128 p)))
wrong_by d b w false true lt e p q =
    judged_is null false true w at_null lt ∙ ap (λ s. not (w == coded_at s (decoded_byte w))) (sym (sign_null d b e (eqb-true b 128 q)))
wrong_by d b w false false lt e p q =
    let l = ltb-false b 128 p in
    let m = eqb-false b 128 q in
    judged_is positive false false w at_positive lt ∙ ap (λ s. not (w == coded_at s (decoded_byte w))) (sym (sign_above d b e (omega (arith, l, m))))

-- the test of the vectors, at any disparity that fits
pub wrong_is : (d : ℤ) (b w : ℕ) → w < 1024 → d ≡ pos (2 * b) -ℤ pos 256 → ltb (lane_right (w % 256) (w / 256) b) 128 ≡ not (is_coded d w)
wrong_is d b w lt e = wrong_by d b w (nat_lt b 128) (b == 128) lt e refl refl
