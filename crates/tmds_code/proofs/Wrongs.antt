-- The characters of a lane that the vectors judge to be wrong are the wrong ones, all of them.
use Rattle.std.proofs.Common.{◌≡◌, ℕ, suc, ◌+◌, ◌-◌, ◌*◌, ◌/◌, ◌%◌, ◌<◌, ◌≤◌, List, [], ◌∷◌, not, length, get_or, map, refl, ap, ap₂, ◌∙◌, ltb, arith}
use Rattle.std.specs.Prelude.{ℤ, pos, ◌-ℤ◌, ◌+ℤ◌}
use Rattle.std.proofs.lemmas.Int.{ints}
use Rattle.tmds_word.specs.Bits.{word_bits, ones, balance}
use Rattle.tmds_word.proofs.Words.{ten_bits}
use Rattle.tmds_code.specs.Coding.{is_coded}
use Rattle.tmds_code.specs.Vectors.{lane_right}
use Rattle.tmds_code.specs.Sixteen.{wrongs}
use Rattle.tmds_code.proofs.Signs.{wrong_is}

balanced_next : (d : ℤ) (b w : ℕ) → w < 1024 → d ≡ pos (2 * b) -ℤ pos 256 → 5 ≤ b → d +ℤ balance (word_bits w) ≡ pos (2 * (b + ones (word_bits w) - 5)) -ℤ pos 256
unfolding balance
balanced_next d b w lt e low = omega (arith, ints, ten_bits w lt)

pub wrongs_are : (ws rights : List ℕ) (d : ℤ) (b : ℕ) (before : ℕ → ℕ) → length rights ≡ length ws
    → d ≡ pos (2 * b) -ℤ pos 256 → 5 * length ws ≤ b → b + 5 * length ws ≤ 255
    → (0 < length ws → before 0 ≡ b)
    → ((k : ℕ) → k < length ws → get_or ws k 0 < 1024)
    → ((k : ℕ) → k < length ws → get_or rights k 0 ≡ lane_right (get_or ws k 0 % 256) (get_or ws k 0 / 256) (before k))
    → ((k : ℕ) → suc k < length ws → before (suc k) ≡ (before k + ones (word_bits (get_or ws k 0)) + 251) % 256)
    → map (λ x. ltb x 128) rights ≡ wrongs d ws
wrongs_are [] [] d b before long e low high start small right next = refl
wrongs_are [] (r ∷ rights) d b before long e low high start small right next = absurd (omega arith)
wrongs_are (w ∷ ws) [] d b before long e low high start small right next = absurd (omega arith)
wrongs_are (w ∷ ws) (r ∷ rights) d b before long e low high start small right next =
    let first = start (omega arith) in
    let lt : w < 1024 = small 0 (omega arith) in
    let few = ten_bits w lt in
    let own : ltb r 128 ≡ not (is_coded d w) =
    ap (λ x. ltb x 128) (right 0 (omega arith)) ∙ (ap (λ n. ltb (lane_right (w % 256) (w / 256) n) 128) first ∙ wrong_is d b w lt e) in
    ap₂ (λ p ps. p ∷ ps) own
    (wrongs_are ws rights (d +ℤ balance (word_bits w)) (b + ones (word_bits w) - 5) (λ k. before (suc k)) (omega arith)
    (balanced_next d b w lt e (omega arith)) (omega (arith, few)) (omega (arith, few))
    (λ l. let n = next 0 (omega arith) in omega (arith, n, first, few))
    (λ k l. small (suc k) (omega arith))
    (λ k l. right (suc k) (omega arith))
    (λ k l. next (suc k) (omega arith)))
