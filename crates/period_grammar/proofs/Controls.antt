-- Control words and control columns, as the vectors find them.
use Rattle.std.proofs.Common.{◌≡◌, ℕ, suc, ◌+◌, ◌-◌, ◌/◌, ◌%◌, ◌^◌, ◌<◌, List, [], ◌∷◌, Bool, true, false, cond, ◌==◌, nat_le, length, get_or, map, replicate, refl, eqb, eqb-true, ap, ap₂, ◌∙◌, arith, w8}
use Rattle.std.specs.Simd.Lanes.{zip2, mask_l, top}
use Rattle.std.proofs.lemmas.Simd.{bitmask_splat}
use Rattle.tmds_word.specs.Words.{columns_of}
use Rattle.tmds_word.proofs.Below.{passes_below, passes_at}
use Rattle.terc4.specs.Tables.{control_words, is_control, is_in}
use Rattle.terc4.specs.Columns.{is_control_column, one_if}
use Rattle.tmds_code.specs.Vectors.{HasLanes}
use Rattle.tmds_code.specs.Sixteen.{AreWords}
use Rattle.period_grammar.specs.Sixteen.{lane_control, two_of, AreControls}

found : ℕ → Bool
found w = lane_control (w % 256) (w / 256) == cond (is_control w) 255 0

all_found : passes_below 1024 found ≡ true
unfolding passes_below found is_control control_words is_in
all_found = refl

control_is : (w : ℕ) → w < 1024 → lane_control (w % 256) (w / 256) ≡ cond (is_control w) 255 0
unfolding found
control_is w lt = eqb-true _ _ (passes_at 1024 found w all_found lt)

pub controls_are : (ws low high v : List ℕ) → AreWords ws low high → HasLanes v (λ k. lane_control (get_or low k 0) (get_or high k 0)) → AreControls v ws
controls_are ws low high v words has =
    record {
      long = words.long;
      has = record {
        long = has.long;
        each = λ k l. has.each k l ∙ ((λ i. lane_control (words.lows k l i) (words.highs k l i)) ∙ control_is (get_or ws k 0) (words.small k l));
      };
    }

two_is : (b g r : Bool) → eqb (two_of (cond b 255 0) (cond g 255 0) (cond r 255 0)) 255 ≡ nat_le 2 (one_if b + one_if g + one_if r)
unfolding one_if
two_is true true true = refl
two_is true true false = refl
two_is true false true = refl
two_is true false false = refl
two_is false true true = refl
two_is false true false = refl
two_is false false true = refl
two_is false false false = refl

columns_are : (v bs gs rs : List ℕ) → length bs ≡ length v → length gs ≡ length v → length rs ≡ length v
    → ((k : ℕ) → k < length v → get_or v k 0 ≡ two_of (cond (is_control (get_or bs k 0)) 255 0) (cond (is_control (get_or gs k 0)) 255 0) (cond (is_control (get_or rs k 0)) 255 0))
    → map (λ x. eqb x 255) v ≡ map is_control_column (columns_of bs gs rs)
unfolding columns_of is_control_column
columns_are [] [] gs rs lb lg lr each = refl
columns_are [] (b ∷ bs) gs rs lb lg lr each = absurd (omega arith)
columns_are (x ∷ v) [] gs rs lb lg lr each = absurd (omega arith)
columns_are (x ∷ v) (b ∷ bs) [] rs lb lg lr each = absurd (omega arith)
columns_are (x ∷ v) (b ∷ bs) (g ∷ gs) [] lb lg lr each = absurd (omega arith)
columns_are (x ∷ v) (b ∷ bs) (g ∷ gs) (r ∷ rs) lb lg lr each =
    ap₂ (λ p ps. p ∷ ps) (ap (λ n. eqb n 255) (each 0 (omega arith)) ∙ two_is (is_control b) (is_control g) (is_control r))
    (columns_are v bs gs rs (omega arith) (omega arith) (omega arith) (λ k l. each (suc k) (omega arith)))

pub column_mask : (bv gv rv v bs gs rs : List ℕ) → AreControls bv bs → AreControls gv gs → AreControls rv rs
    → HasLanes v (λ k. two_of (get_or bv k 0) (get_or gv k 0) (get_or rv k 0))
    → mask_l (map (top 7) (zip2 (λ a b. cond (eqb a b) (2 ^ 8 - 1) 0) v (replicate 16 255))) % 2 ^ 64 ≡ mask_l (map is_control_column (columns_of bs gs rs))
column_mask bv gv rv v bs gs rs blue green red has =
    let long = has.long in
    let lb = blue.long in
    let lg = green.long in
    let lr = red.long in
    bitmask_splat w8 eqb v 16 255 long (omega arith)
    ∙ ap mask_l (columns_are v bs gs rs (omega (arith, long, lb)) (omega (arith, long, lg)) (omega (arith, long, lr))
    (λ k l. let m : k < 16 = omega (arith, long) in
    has.each k m ∙ (λ i. two_of (blue.has.each k m i) (green.has.each k m i) (red.has.each k m i))))
