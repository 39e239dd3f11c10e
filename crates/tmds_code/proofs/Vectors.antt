-- What the operations on vectors of sixteen bytes hold at each lane.
use Rattle.std.proofs.Common.{◌≡◌, ℕ, ◌+◌, ◌-◌, ◌%◌, ◌^◌, ◌<◌, List, Bool, false, cond, length, get_or, map, replicate, refl, sym, ap, ◌∙◌, arith, w8}
use Rattle.std.specs.Simd.Lanes.{zip2, sel_l, top}
use Rattle.std.proofs.lemmas.Simd.{length-zip2, get_or-zip2, get_or-replicate, length-sel_l, get_or-sel_l, tops_compared, SwzOk-from_below, Each1-from_get_or, length-swz_l, get_or-swz_l_below, swz_l, SwzOk}
use Rattle.tmds_code.specs.Vectors.{HasLanes}

abbrev pub add : ℕ → ℕ → ℕ
add a b = (a + b) % 2 ^ 8

abbrev pub sub : ℕ → ℕ → ℕ
sub a b = (a + (2 ^ 8 - b)) % 2 ^ 8

pub own : (v : List ℕ) → length v ≡ 16 → HasLanes v (λ k. get_or v k 0)
own v long = record { long = long; each = λ k l. refl }

pub splat : (x : ℕ) → HasLanes (replicate 16 x) (λ k. x)
splat x = record { long = refl; each = λ k l. get_or-replicate 16 k x 0 l }

-- an operator on two vectors
pub zipped : (f : ℕ → ℕ → ℕ) {a b : List ℕ} {g h : ℕ → ℕ} → HasLanes a g → HasLanes b h → HasLanes (zip2 f a b) (λ k. f (g k) (h k))
zipped f {a} {b} {g} {h} p q =
    let long = p.long in
    let long_b = q.long in
    record {
      long = length-zip2 f a b (long ∙ sym long_b) ∙ long;
      each = λ k l. get_or-zip2 f a b k 0 0 0 (omega arith) (omega arith) ∙ (λ i. f (p.each k l i) (q.each k l i));
    }

-- a choice of two splats by a comparison
pub chosen : (t : ℕ → ℕ → Bool) (y z : ℕ) {a b : List ℕ} {g h : ℕ → ℕ} → HasLanes a g → HasLanes b h
    → HasLanes (sel_l (map (top 7) (zip2 (λ p q. cond (t p q) (2 ^ 8 - 1) 0) a b)) (replicate 16 y) (replicate 16 z)) (λ k. cond (t (g k) (h k)) y z)
chosen t y z {a} {b} {g} {h} p q =
    let pl = p.long in
    let ql = q.long in
    let long : length (zip2 t a b) ≡ 16 = length-zip2 t a b (pl ∙ sym ql) ∙ pl in
    let e : map (top 7) (zip2 (λ p q. cond (t p q) (2 ^ 8 - 1) 0) a b) ≡ zip2 t a b = tops_compared w8 t a b in
    record {
      long = ap (λ ms. length (sel_l ms (replicate 16 y) (replicate 16 z))) e ∙ (length-sel_l (zip2 t a b) (replicate 16 y) (replicate 16 z) long long ∙ long);
      each = λ k l.
          ap (λ ms. get_or (sel_l ms (replicate 16 y) (replicate 16 z)) k 0) e
          ∙ (get_or-sel_l (zip2 t a b) (replicate 16 y) (replicate 16 z) k 0 (omega arith) l l
          ∙ (λ i. cond ((get_or-zip2 t a b k 0 0 false (omega arith) (omega arith) ∙ (λ j. t (p.each k l j) (q.each k l j))) i) (get_or-replicate 16 k y 0 l i) (get_or-replicate 16 k z 0 l i)));
    }

-- positions below 16 may be looked up
pub nibbles_ok : (js : List ℕ) (f : ℕ → ℕ) → HasLanes js f → ((k : ℕ) → k < 16 → f k < 16) → SwzOk w8 16 16 0 js
nibbles_ok js f h small =
    let long = h.long in
    SwzOk-from_below w8 16 1 16 0 js refl (omega arith) (Each1-from_get_or (λ j. j < 16) js 0 (λ i l. omega (arith, h.each i (omega arith), small i (omega arith))))

pub looked_up : (js : List ℕ) (f : ℕ → ℕ) → HasLanes js f → ((k : ℕ) → k < 16 → f k < 16) → (table : List ℕ) → HasLanes (swz_l w8 16 table 0 js) (λ k. get_or table (f k) 0)
looked_up js f h small table =
    let long = h.long in
    record {
      long = length-swz_l w8 16 table 0 js ∙ long;
      each = λ k l.
          let e = h.each k l in
          get_or-swz_l_below w8 16 table 0 js k (omega arith) (omega (arith, small k l)) ∙ ap (λ j. get_or table j 0) (omega arith);
    }
