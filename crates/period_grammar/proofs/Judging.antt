-- A word after words that were judged.
use Rattle.std.proofs.Common.{◌≡◌, ℕ, ◌+◌, Bool, true, false, cond, List, [], ◌∷◌, ◌++◌, length, is_some, sym, ◌∙◌, arith}
use Rattle.std.specs.Prelude.{Option, Some, None, ℤ, ◌+ℤ◌, ◌↔◌, IsTrue}
use Rattle.std.proofs.Math.IntN.{+ℤ_assoc}
use Rattle.std.proofs.lemmas.Bool.{eqb-true, eq-eqb}
use Rattle.tmds_word.specs.Bits.{word_bits, balance}
use Rattle.tmds_code.specs.Coding.{Coded, decoded_byte}
use Rattle.tmds_code.specs.Lanes.{disparity_of}
use Rattle.tmds_code.specs.Pasts.{IsJudgeAfter}
use Rattle.period_grammar.specs.Coding.{is_coded, first_from}
use Rattle.period_grammar.specs.Judged.{first_next, IsLaneAfter}
use Rattle.period_grammar.specs.declared.lane.LaneJudge.{LaneJudge}

at_first : (p : Bool) (n : ℕ) → cond p None (Some n) ≡ first_next None p n
at_first p n = grind arith

later : (p : Bool) (n : ℕ) (a b : Option ℕ) (q : Bool) (m : ℕ) → a ≡ first_next b q m → cond p a (Some n) ≡ first_next (cond p b (Some n)) q m
later p n a b q m h = grind arith

first_push : (total : ℤ) (n : ℕ) (ws : List ℕ) (w : ℕ) (t : ℤ) (m : ℕ) → t ≡ total +ℤ disparity_of ws → m ≡ n + length ws
    → first_from total n (ws ++ w ∷ []) ≡ first_next (first_from total n ws) (is_coded t w) m
unfolding disparity_of
first_push total n [] w t m e f = grind (arith, at_first)
first_push total n (v ∷ ws) w t m e f =
    let a : t ≡ (total +ℤ balance (word_bits v)) +ℤ disparity_of ws = e ∙ sym (+ℤ_assoc total (balance (word_bits v)) (disparity_of ws)) in
    let b : m ≡ (n + 1) + length ws = omega arith in
    later (is_coded total v) n (first_from (total +ℤ balance (word_bits v)) (n + 1) (ws ++ w ∷ [])) (first_from (total +ℤ balance (word_bits v)) (n + 1) ws) (is_coded t w) m
    (first_push (total +ℤ balance (word_bits v)) (n + 1) ws w t m a b)

same_test : (p q : Bool) → (p ≡ true → q ≡ true) → (q ≡ true → p ≡ true) → p ≡ q
same_test p q h k = grind arith

-- a test that says whether a word is rightly coded
pub coded_test : (p : Bool) (disparity : ℤ) (w : ℕ) → (IsTrue p ↔ Coded disparity (decoded_byte w) w) → p ≡ is_coded disparity w
unfolding is_coded
coded_test p disparity w h = same_test p _ (λ e. eq-eqb w _ (h.0 e)) (λ e. h.1 (eqb-true w _ e))

pub lane_push : (old new : LaneJudge) (w n : ℕ) (ws : List ℕ) (right : Bool) → old.judge.count ≡ n → IsLaneAfter old ws → IsJudgeAfter new.judge (ws ++ w ∷ [])
    → right ≡ is_coded old.judge.disparity w → new.first ≡ first_next old.first right n → IsLaneAfter new (ws ++ w ∷ [])
lane_push old new w n ws right same was judge e f = grind (arith, first_push)

-- the first wrong word, after a word of which a test said whether it is rightly coded
pub first_anew : (first : Option ℕ) (right : Bool) (n : ℕ) → right ≡ false → is_some first ≡ false → Some n ≡ first_next first right n
first_anew first right n h k = grind arith

pub first_right : (first : Option ℕ) (right : Bool) (n : ℕ) → right ≡ true → first ≡ first_next first right n
first_right first right n h = grind arith

pub first_stays : (first : Option ℕ) (right : Bool) (n : ℕ) → is_some first ≡ true → first ≡ first_next first right n
first_stays first right n h = grind arith
