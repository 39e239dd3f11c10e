-- A part of a list in which ten bits are replaced.
use Rattle.std.proofs.Common.{◌≡◌, ℕ, zero, suc, ◌+◌, ◌*◌, ◌≤◌, Bool, List, [], ◌∷◌, ◌++◌, length, take, drop, refl, ap, ◌∙◌, sym, subst, arith, append_assoc}
use Rattle.tmds_word.specs.Bits.{row_bits, word_bits}
use Rattle.tmds_word.specs.Taps.{part_of}
use Rattle.tmds_word.proofs.Lists.{row_bits-append, length-row_bits, length-word_bits}
use Rattle.capture_file.specs.Damage.{with_word}

-- where they begin the list
swap_first : (c : ℕ) (V W B : List Bool) → length V ≡ length W → length V ≤ c → W ++ drop (length V) (take c (V ++ B)) ≡ take c (W ++ B)
swap_first c [] [] B same le = refl
swap_first c [] (w ∷ W) B same le = absurd (omega arith)
swap_first c (v ∷ V) [] B same le = absurd (omega arith)
swap_first zero (v ∷ V) (w ∷ W) B same le = absurd (omega arith)
swap_first (suc c) (v ∷ V) (w ∷ W) B same le = ap (λ (xs : List Bool). w ∷ xs) (swap_first c V W B (omega arith) (omega arith))

-- after some bits
swap_after : (p q c : ℕ) (A V W B : List Bool) → length A ≡ p → q ≡ p + length V → length V ≡ length W → q ≤ c
    → take p (take c (A ++ (V ++ B))) ++ (W ++ drop q (take c (A ++ (V ++ B)))) ≡ take c (A ++ (W ++ B))
swap_after zero q c [] V W B a e same le =
    let at : length V ≡ q = omega arith in
    subst (λ k. W ++ drop k (take c (V ++ B)) ≡ take c (W ++ B)) at (swap_first c V W B same (omega arith))
swap_after zero q c (x ∷ A) V W B a e same le = absurd (omega arith)
swap_after (suc p) q c [] V W B a e same le = absurd (omega arith)
swap_after (suc p) zero c (x ∷ A) V W B a e same le = absurd (omega arith)
swap_after (suc p) (suc q) zero (x ∷ A) V W B a e same le = absurd (omega arith)
swap_after (suc p) (suc q) (suc c) (x ∷ A) V W B a e same le = ap (λ (xs : List Bool). x ∷ xs) (swap_after p q c A V W B (omega arith) (omega arith) same (omega arith))

-- after some that are passed and some that are kept
swap_part : (f p q c : ℕ) (A V W B : List Bool) → length A ≡ p + f → q ≡ p + length V → length V ≡ length W → q ≤ c
    → take p (take c (drop f (A ++ (V ++ B)))) ++ (W ++ drop q (take c (drop f (A ++ (V ++ B))))) ≡ take c (drop f (A ++ (W ++ B)))
swap_part zero p q c A V W B a e same le = swap_after p q c A V W B (omega arith) e same le
swap_part (suc f) p q c [] V W B a e same le = absurd (omega arith)
swap_part (suc f) p q c (x ∷ A) V W B a e same le = swap_part f p q c A V W B (omega arith) e same le

bits_there : (before : List ℕ) (v : ℕ) (after : List ℕ) → row_bits (before ++ (v ∷ after)) ≡ row_bits before ++ (word_bits v ++ row_bits after)
unfolding row_bits
bits_there before v after = row_bits-append before (v ∷ after)

whole_of : (place from count : ℕ) (x V W y R S : List Bool) → R ≡ x ++ (V ++ y) → S ≡ x ++ (W ++ y) → length x ≡ place + from → length V ≡ 10 → length W ≡ 10 → place + 10 ≤ count
    → take place (take count (drop from R)) ++ (W ++ drop (place + 10) (take count (drop from R))) ≡ take count (drop from S)
whole_of place from count x V W y R S r s a b c le =
    subst (λ (R1 : List Bool). take place (take count (drop from R1)) ++ (W ++ drop (place + 10) (take count (drop from R1))) ≡ take count (drop from S)) (sym r)
    (subst (λ (S1 : List Bool). take place (take count (drop from (x ++ (V ++ y)))) ++ (W ++ drop (place + 10) (take count (drop from (x ++ (V ++ y))))) ≡ take count (drop from S1)) (sym s)
    (swap_part from place (place + 10) count x V W y a (omega (arith, b)) (b ∙ sym c) le))

long : (before : List ℕ) (n : ℕ) → n ≡ 10 * length before → length (row_bits before) ≡ n
long before n at = length-row_bits before ∙ sym at

-- of a part of a lane's bits the ten bits of one character are replaced: it is that part of the lane with the character replaced
pub whole_hit : (before : List ℕ) (v w : ℕ) (after : List ℕ) (from count place : ℕ) → place + from ≡ 10 * length before → place + 10 ≤ count
    → with_word place w (part_of (before ++ (v ∷ after)) from count) ≡ part_of (before ++ (w ∷ after)) from count
whole_hit before v w after from count place at le =
    append_assoc (take place (part_of (before ++ (v ∷ after)) from count)) (word_bits w) (drop (place + 10) (part_of (before ++ (v ∷ after)) from count))
    ∙ whole_of place from count (row_bits before) (word_bits v) (word_bits w) (row_bits after) (row_bits (before ++ (v ∷ after))) (row_bits (before ++ (w ∷ after)))
    (bits_there before v after) (bits_there before w after) (long before (place + from) at) (length-word_bits v) (length-word_bits w) le
