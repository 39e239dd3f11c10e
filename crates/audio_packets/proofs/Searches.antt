-- The first place of a range that passes a test, and those that pass it.
use Rattle.std.proofs.Common.{◌≡◌, ℕ, zero, suc, ◌+◌, ◌-◌, ◌≤◌, Bool, true, false, cond, List, [], ◌∷◌, ◌<◌, drop, Option, Some, None, refl, ap, ◌∙◌, sym, subst, arith}
use Rattle.std.specs.Option.{option_map}
use Rattle.std.specs.List.{range_with_len, find, filter}

pub option_map-same : {T : Type 0} (o : Option T) → option_map (λ x. x) o ≡ o
option_map-same o = grind arith

-- the bodies from one on
pub drop-places : (place : ℕ) → place ≤ 4 → drop place (0 ∷ 1 ∷ 2 ∷ 3 ∷ []) ≡ range_with_len place (4 - place)
drop-places zero le = refl
drop-places (suc zero) le = refl
drop-places (suc (suc zero)) le = refl
drop-places (suc (suc (suc zero))) le = refl
drop-places (suc (suc (suc (suc zero)))) le = refl
drop-places (suc (suc (suc (suc (suc n))))) le = absurd (omega arith)

-- where none passes
pub filter-none : (p : ℕ → Bool) (xs : List ℕ) → find p xs ≡ None → filter p xs ≡ []
filter-none p [] e = refl
filter-none p (x ∷ xs) e = grind (arith, filter-none p xs)

range_from : (p : ℕ → Bool) (a b m n : ℕ) → a ≡ b → m ≡ n → a ∷ filter p (range_with_len (a + 1) m) ≡ b ∷ filter p (range_with_len (b + 1) n)
range_from p a b m n e f = λ i. e i ∷ filter p (range_with_len (e i + 1) (f i))

-- those of a range that pass: the first one, and those after it
filter-range : (p : ℕ → Bool) (a n b : ℕ) → find p (range_with_len a n) ≡ Some b
    → filter p (range_with_len a n) ≡ b ∷ filter p (range_with_len (b + 1) (a + n - (b + 1)))
filter-range p a zero b e = absurd (cc)
filter-range p a (suc n) b e =
    elim (p a) as (λ v. cond v (Some a) (find p (range_with_len (a + 1) n)) ≡ Some b
    → cond v (a ∷ filter p (range_with_len (a + 1) n)) (filter p (range_with_len (a + 1) n)) ≡ b ∷ filter p (range_with_len (b + 1) (a + suc n - (b + 1)))) [
      | true ↦ λ h. let same : a ≡ b = cc in range_from p a b n _ same (omega (arith, same))
      | false ↦ λ h. filter-range p (a + 1) n b h ∙ range_from p b b _ _ refl (omega arith)
    ]
    e

-- the present bodies from a body on: the first one, and those after it
pub filter-places : (p : ℕ → Bool) (place body : ℕ) → place ≤ 4 → body < 4 → find p (drop place (0 ∷ 1 ∷ 2 ∷ 3 ∷ [])) ≡ Some body
    → filter p (drop place (0 ∷ 1 ∷ 2 ∷ 3 ∷ [])) ≡ body ∷ filter p (drop (body + 1) (0 ∷ 1 ∷ 2 ∷ 3 ∷ []))
filter-places p place body le lt e =
    let here = drop-places place le in
    let after : body + 1 ≤ 4 = omega arith in
    let many : place + (4 - place) - (body + 1) ≡ 4 - (body + 1) = omega arith in
    ap (filter p) here
    ∙ filter-range p place (4 - place) body (subst (λ xs. find p xs ≡ Some body) here e)
    ∙ ap (λ n. body ∷ filter p (range_with_len (body + 1) n)) many
    ∙ ap (λ xs. body ∷ filter p xs) (sym (drop-places (body + 1) after))
