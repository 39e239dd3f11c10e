-- What sixteen lanes say of sixteen characters: the wrong ones, and how many ones they have up to each.
use Rattle.std.proofs.Common.{◌≡◌, ℕ, zero, suc, ◌+◌, ◌-◌, ◌*◌, ◌/◌, ◌%◌, ◌^◌, ◌<◌, ◌≤◌, List, [], ◌∷◌, Bool, true, cond, length, take, get_or, map, replicate, refl, ap, ◌∙◌, ltb, arith, w8, ◌==◌, eqb-true}
use Rattle.std.specs.Simd.Lanes.{zip2, mask_l, top}
use Rattle.std.proofs.lemmas.Int.{ints}
use Rattle.std.proofs.lemmas.Simd.{bitmask_splat, get_or-replicate}
use Rattle.tmds_word.specs.Bits.{bits_of, word_bits, ones}
use Rattle.tmds_word.proofs.Below.{passes_below, passes_at}
use Rattle.tmds_word.proofs.Words.{ten_bits}
use Rattle.tmds_code.specs.Vectors.{HasLanes, lane_counts, lane_sum, sum_of, right_of, fives, half_before, sum_to}
use Rattle.tmds_code.specs.Sixteen.{AreWords, at_step, wrongs, all_ones}
use Rattle.tmds_code.proofs.Wrongs.{wrongs_are}

counted : ℕ → Bool
counted w = lane_sum (w % 256) (w / 256) == ones (word_bits w)

all_counted : passes_below 1024 counted ≡ true
unfolding passes_below counted ones word_bits bits_of
all_counted = refl

sum_is : (w : ℕ) → w < 1024 → lane_sum (w % 256) (w / 256) ≡ ones (word_bits w)
unfolding counted
sum_is w lt = eqb-true _ _ (passes_at 1024 counted w all_counted lt)

sum_first : (v : List ℕ) → sum_to 0 v ≡ get_or v 0 0
sum_first [] = refl
sum_first (x ∷ xs) = refl

sum_next : (k : ℕ) (v : List ℕ) → suc k < length v → sum_to (suc k) v ≡ sum_to k v + get_or v (suc k) 0
sum_next k [] l = absurd (omega arith)
sum_next zero (x ∷ []) l = absurd (omega arith)
sum_next zero (x ∷ (y ∷ ys)) l = refl
sum_next (suc k) (x ∷ xs) l = let e = sum_next k xs (omega arith) in omega (arith, e)

five_next : (k : ℕ) → suc k < 16 → get_or fives (suc k) 0 ≡ (get_or fives k 0 + 251) % 256
five_next zero l = refl
five_next (suc zero) l = refl
five_next (suc (suc zero)) l = refl
five_next (suc (suc (suc zero))) l = refl
five_next (suc (suc (suc (suc zero)))) l = refl
five_next (suc (suc (suc (suc (suc zero))))) l = refl
five_next (suc (suc (suc (suc (suc (suc zero)))))) l = refl
five_next (suc (suc (suc (suc (suc (suc (suc zero))))))) l = refl
five_next (suc (suc (suc (suc (suc (suc (suc (suc zero)))))))) l = refl
five_next (suc (suc (suc (suc (suc (suc (suc (suc (suc zero))))))))) l = refl
five_next (suc (suc (suc (suc (suc (suc (suc (suc (suc (suc zero)))))))))) l = refl
five_next (suc (suc (suc (suc (suc (suc (suc (suc (suc (suc (suc zero))))))))))) l = refl
five_next (suc (suc (suc (suc (suc (suc (suc (suc (suc (suc (suc (suc zero)))))))))))) l = refl
five_next (suc (suc (suc (suc (suc (suc (suc (suc (suc (suc (suc (suc (suc zero))))))))))))) l = refl
five_next (suc (suc (suc (suc (suc (suc (suc (suc (suc (suc (suc (suc (suc (suc zero)))))))))))))) l = refl
five_next (suc (suc (suc (suc (suc (suc (suc (suc (suc (suc (suc (suc (suc (suc (suc k))))))))))))))) l = absurd (omega arith)

-- one character's balance is added from lane to lane
turn : (c f g t o p s u a b : ℕ) → o ≤ 10 → p ≤ 10 → g ≡ (f + 251) % 256 → s ≡ t % 256 → u ≡ (t + p) % 256
    → a ≡ half_before c f s o → b ≡ half_before c g u p → b ≡ (a + o + 251) % 256
turn c f g t o p s u a b lo lp eg es eu ea eb = omega arith

one_at : (ws low high counts one_sums : List ℕ) → AreWords ws low high
    → HasLanes counts (λ k. lane_counts (get_or low k 0))
    → HasLanes one_sums (λ k. sum_of (get_or counts k 0) (get_or high k 0))
    → (k : ℕ) → k < 16 → get_or one_sums k 0 ≡ ones (word_bits (get_or ws k 0))
one_at ws low high counts one_sums words has_counts has_ones k l =
    has_ones.each k l ∙ ((λ i. sum_of ((has_counts.each k l ∙ ap lane_counts (words.lows k l)) i) (words.highs k l i)) ∙ sum_is (get_or ws k 0) (words.small k l))

wrong_law : (ws low high carry counts one_sums sums before rights : List ℕ) (s : ℕ) → AreWords ws low high → s ≤ 8 → carry ≡ replicate 16 (s + 124)
    → HasLanes counts (λ k. lane_counts (get_or low k 0))
    → HasLanes one_sums (λ k. sum_of (get_or counts k 0) (get_or high k 0))
    → ((k : ℕ) → k < 16 → get_or sums k 0 ≡ sum_to k one_sums % 256)
    → HasLanes before (λ k. half_before (get_or carry k 0) (get_or fives k 0) (get_or sums k 0) (get_or one_sums k 0))
    → HasLanes rights (λ k. right_of (get_or low k 0) (get_or high k 0) (get_or counts k 0) (get_or before k 0))
    → map (λ x. ltb x 128) rights ≡ wrongs (at_step s) ws
wrong_law ws low high carry counts one_sums sums before rights s words le is_carry has_counts has_ones has_sums has_before has_rights =
    let long = words.long in
    let counted : (k : ℕ) → k < 16 → get_or counts k 0 ≡ lane_counts (get_or ws k 0 % 256) = λ k l. has_counts.each k l ∙ ap lane_counts (words.lows k l) in
    let one_is : (k : ℕ) → k < 16 → get_or one_sums k 0 ≡ ones (word_bits (get_or ws k 0))
    = λ k l. has_ones.each k l ∙ ((λ i. sum_of (counted k l i) (words.highs k l i)) ∙ sum_is (get_or ws k 0) (words.small k l)) in
    let few : (k : ℕ) → k < 16 → get_or one_sums k 0 ≤ 10 = λ k l. let e = one_is k l in let t = ten_bits (get_or ws k 0) (words.small k l) in omega (arith, e, t) in
    let carried : (k : ℕ) → k < 16 → get_or carry k 0 ≡ s + 124 = λ k l. ap (λ v. get_or v k 0) is_carry ∙ get_or-replicate 16 k (s + 124) 0 l in
    let ones_long = has_ones.long in
    let rights_long = has_rights.long in
    wrongs_are ws rights (at_step s) (s + 124) (λ k. get_or before k 0) (omega (arith, long, rights_long)) (omega (arith, ints)) (omega (arith, long)) (omega (arith, long))
    (λ l. let b = has_before.each 0 (omega arith) in
    let c = carried 0 (omega arith) in
    let t = has_sums 0 (omega arith) ∙ ap (λ n. n % 256) (sum_first one_sums) in
    let o = few 0 (omega arith) in
    omega (arith, b, c, t, o, le))
    (λ k l. words.small k (omega (arith, long)))
    (λ k l. let m : k < 16 = omega (arith, long) in
    has_rights.each k m ∙ (λ i. right_of (words.lows k m i) (words.highs k m i) (counted k m i) (get_or before k 0)))
    (λ k l. let m : suc k < 16 = omega (arith, long) in
    let n : k < 16 = omega arith in
    turn (s + 124) (get_or fives k 0) (get_or fives (suc k) 0) (sum_to k one_sums) (get_or one_sums k 0) (get_or one_sums (suc k) 0) (get_or sums k 0) (get_or sums (suc k) 0) (get_or before k 0) (get_or before (suc k) 0)
    (few k n) (few (suc k) m) (five_next k m) (has_sums k n) (has_sums (suc k) m ∙ ap (λ x. x % 256) (sum_next k one_sums (omega (arith, ones_long))))
    (has_before.each k n ∙ ap (λ x. half_before x (get_or fives k 0) (get_or sums k 0) (get_or one_sums k 0)) (carried k n))
    (has_before.each (suc k) m ∙ ap (λ x. half_before x (get_or fives (suc k) 0) (get_or sums (suc k) 0) (get_or one_sums (suc k) 0)) (carried (suc k) m))
    ∙ ap (λ x. (get_or before k 0 + x + 251) % 256) (one_is k n))

pub wrong_mask : (ws low high counts one_sums sums before rights : List ℕ) (s : ℕ) → AreWords ws low high → s ≤ 8
    → HasLanes counts (λ k. lane_counts (get_or low k 0))
    → HasLanes one_sums (λ k. sum_of (get_or counts k 0) (get_or high k 0))
    → ((k : ℕ) → k < 16 → get_or sums k 0 ≡ sum_to k one_sums % 256)
    → HasLanes before (λ k. half_before (get_or (replicate 16 (s + 124)) k 0) (get_or fives k 0) (get_or sums k 0) (get_or one_sums k 0))
    → HasLanes rights (λ k. right_of (get_or low k 0) (get_or high k 0) (get_or counts k 0) (get_or before k 0))
    → mask_l (map (top 7) (zip2 (λ a b. cond (ltb a b) (2 ^ 8 - 1) 0) rights (replicate 16 128))) % 2 ^ 64 ≡ mask_l (wrongs (at_step s) ws)
wrong_mask ws low high counts one_sums sums before rights s words le has_counts has_ones has_sums has_before has_rights =
    bitmask_splat w8 ltb rights 16 128 has_rights.long (omega arith)
    ∙ ap mask_l (wrong_law ws low high (replicate 16 (s + 124)) counts one_sums sums before rights s words le refl has_counts has_ones has_sums has_before has_rights)

-- sums of the ones of the first characters

ones_to : (k : ℕ) (xs ws : List ℕ) → length xs ≡ length ws → k < length xs → ((j : ℕ) → j < length xs → get_or xs j 0 ≡ ones (word_bits (get_or ws j 0))) → sum_to k xs ≡ all_ones (take (suc k) ws)
ones_to k [] ws long l each = absurd (omega arith)
ones_to k (x ∷ xs) [] long l each = absurd (omega arith)
ones_to zero (x ∷ xs) (w ∷ ws) long l each = let e = each 0 (omega arith) in omega (arith, e)
ones_to (suc k) (x ∷ xs) (w ∷ ws) long l each =
    let e = each 0 (omega arith) in
    let r = ones_to k xs ws (omega arith) (omega arith) (λ j m. each (suc j) (omega arith)) in
    omega (arith, e, r)

few_ones : (n : ℕ) (ws : List ℕ) → ((k : ℕ) → k < length ws → get_or ws k 0 < 1024) → all_ones (take n ws) ≤ 10 * length ws
few_ones zero ws small = omega arith
few_ones (suc n) [] small = omega arith
few_ones (suc n) (w ∷ ws) small =
    let t = ten_bits w (small 0 (omega arith)) in
    let r = few_ones n ws (λ k l. small (suc k) (omega arith)) in
    omega (arith, t, r)

pub sums_are_ones : (ws low high counts one_sums sums : List ℕ) → AreWords ws low high
    → HasLanes counts (λ k. lane_counts (get_or low k 0))
    → HasLanes one_sums (λ k. sum_of (get_or counts k 0) (get_or high k 0))
    → ((k : ℕ) → k < 16 → get_or sums k 0 ≡ sum_to k one_sums % 256)
    → (k : ℕ) → k < 16 → get_or sums k 0 ≡ all_ones (take (k + 1) ws)
sums_are_ones ws low high counts one_sums sums words has_counts has_ones has_sums k l =
    let long = words.long in
    let ones_long = has_ones.long in
    let whole = ones_to k one_sums ws (omega (arith, long, ones_long)) (omega (arith, ones_long)) (λ j m. one_at ws low high counts one_sums words has_counts has_ones j (omega (arith, ones_long))) in
    let sum = has_sums k l in
    let few = few_ones (suc k) ws (λ j m. words.small j (omega (arith, long))) in
    let same : suc k ≡ k + 1 = omega arith in
    let e : get_or sums k 0 ≡ all_ones (take (suc k) ws) = omega (arith, whole, sum, few, long) in
    e ∙ ap (λ n. all_ones (take n ws)) same
