-- Eight columns that are compared with another one at once.
use Rattle.std.proofs.Common.{◌≡◌, ℕ, zero, suc, ◌+◌, ◌-◌, ◌%◌, ◌^◌, ◌≤◌, Bool, true, false, not, cond, ◌==◌, ◌&&◌, eqb, List, [], ◌∷◌, length, take, drop, map, replicate, refl, ap, ap₂, sym, ◌∙◌, arith, bit_or}
use Rattle.std.specs.List.{prefix_len}
use Rattle.std.specs.Simd.Lanes.{zip2, mask_l, top}
use Rattle.std.specs.Int.Count.{count_trailing_zeros}
use Rattle.std.proofs.lemmas.List.{drop-drop, length-map}
use Rattle.std.proofs.lemmas.Simd.{first_set_mask_l, mask_l-mod}
use Rattle.tmds_word.specs.Column.{Column}
use Rattle.tmds_word.specs.Words.{columns_of}
use Rattle.period_grammar.specs.GoesOn.{is_alike, is_unlike}
use Rattle.period_grammar.proofs.Firsts.{not_zero}
use Rattle.period_grammar.proofs.Pixels.{prefix_whole}

-- all bits where two words are unlike, else none
abbrev unlike : ℕ → ℕ → ℕ
unlike a b = cond (not (eqb a b)) (2 ^ 16 - 1) 0

one_mark : (p q r : Bool) → top 15 (bit_or (bit_or (cond (not p) (2 ^ 16 - 1) 0) (cond (not q) (2 ^ 16 - 1) 0)) (cond (not r) (2 ^ 16 - 1) 0)) ≡ not (p && (q && r))
one_mark true true true = refl
one_mark true true false = refl
one_mark true false true = refl
one_mark true false false = refl
one_mark false true true = refl
one_mark false true false = refl
one_mark false false true = refl
one_mark false false false = refl

marks : (n : ℕ) (c : Column) (bs gs rs : List ℕ) → length bs ≡ n → length gs ≡ n → length rs ≡ n
    → map (top 15) (zip2 bit_or (zip2 bit_or (zip2 unlike bs (replicate n c.blue)) (zip2 unlike gs (replicate n c.green))) (zip2 unlike rs (replicate n c.red))) ≡ map (is_unlike c) (columns_of bs gs rs)
unfolding columns_of
marks zero c [] gs rs lb lg lr = refl
marks zero c (x ∷ bs) gs rs lb lg lr = absurd (omega arith)
marks (suc n) c [] gs rs lb lg lr = absurd (omega arith)
marks (suc n) c (x ∷ bs) [] rs lb lg lr = absurd (omega arith)
marks (suc n) c (x ∷ bs) (y ∷ gs) [] lb lg lr = absurd (omega arith)
marks (suc n) c (x ∷ bs) (y ∷ gs) (z ∷ rs) lb lg lr =
    ap₂ (λ p ps. p ∷ ps) (one_mark (x == c.blue) (y == c.green) (z == c.red)) (marks n c bs gs rs (omega arith) (omega arith) (omega arith))

few_columns : (bs gs rs : List ℕ) → length (columns_of bs gs rs) ≤ length bs
unfolding columns_of
few_columns [] gs rs = omega arith
few_columns (b ∷ bs) [] rs = omega arith
few_columns (b ∷ bs) (g ∷ gs) [] = omega arith
few_columns (b ∷ bs) (g ∷ gs) (r ∷ rs) = omega (arith, few_columns bs gs rs)

pub unlike_mask : (c d : Column) (bs gs rs : List ℕ) → length bs ≡ 8 → length gs ≡ 8 → length rs ≡ 8 → c ≡ d
    → mask_l (map (top 15) (zip2 bit_or (zip2 bit_or (zip2 unlike bs (replicate 8 c.blue)) (zip2 unlike gs (replicate 8 c.green))) (zip2 unlike rs (replicate 8 c.red)))) % 2 ^ 64 ≡ mask_l (map (is_unlike d) (columns_of bs gs rs))
unlike_mask c d bs gs rs lb lg lr e =
    ap (λ ms. mask_l ms % 2 ^ 64) (marks 8 c bs gs rs lb lg lr)
    ∙ mask_l-mod (map (is_unlike c) (columns_of bs gs rs)) 64 (omega (arith, length-map (columns_of bs gs rs) (is_unlike c), few_columns bs gs rs, lb))
    ∙ ap (λ (x : Column). mask_l (map (is_unlike x) (columns_of bs gs rs))) e

-- the first that is unlike

twice : (p : Bool) → not (not p) ≡ p
twice true = refl
twice false = refl

first_is : (m : ℕ) (c : Column) (cs : List Column) → length cs ≡ 8 → m ≡ mask_l (map (is_unlike c) cs) → cond (eqb m 0) 8 (count_trailing_zeros 64 m) ≡ prefix_len (is_alike c) cs
first_is m c cs long e =
    ap (λ k. cond (eqb k 0) 8 (count_trailing_zeros 64 k)) e ∙ first_set_mask_l (is_unlike c) cs 8 long (omega arith)
    ∙ ap (λ (p : Column → Bool). prefix_len p cs) (λ i d. twice (is_alike c d) i)

pub all_alike : (m : ℕ) (c : Column) (cs : List Column) → length cs ≡ 8 → m ≡ mask_l (map (is_unlike c) cs) → m ≡ 0 → 8 ≡ prefix_len (is_alike c) cs
all_alike m c cs long e z = ap (λ k. cond (eqb k 0) 8 (count_trailing_zeros 64 k)) (sym z) ∙ first_is m c cs long e

pub some_alike : (m : ℕ) (c : Column) (cs : List Column) → length cs ≡ 8 → m ≡ mask_l (map (is_unlike c) cs) → (m ≡ 0 → ⊥) → count_trailing_zeros 64 m ≡ prefix_len (is_alike c) cs
some_alike m c cs long e z = ap (λ p. cond p 8 (count_trailing_zeros 64 m)) (sym (not_zero m z)) ∙ first_is m c cs long e

-- the columns after eight that pass
pub eight_more : (p : Column → Bool) (cols part : List Column) (n at k : ℕ) → part ≡ take 8 (drop at cols) → 8 ≤ length (drop at cols) → k ≡ prefix_len p part → k ≡ 8 → n ≡ at + prefix_len p (drop at cols)
    → n ≡ (at + k) + prefix_len p (drop (at + k) cols)
eight_more p cols part n at k e le first all was =
    let whole = prefix_whole p 8 (drop at cols) le (sym (sym all ∙ first ∙ ap (prefix_len p) e)) in
    let same : prefix_len p (drop 8 (drop at cols)) ≡ prefix_len p (drop (at + k) cols) = ap (prefix_len p) (drop-drop 8 at cols) ∙ ap (λ m. prefix_len p (drop (at + m) cols)) (sym all) in
    omega (arith, whole, same, was, all)
