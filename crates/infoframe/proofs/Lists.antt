-- Lists of a known length, and the first of five places that passes a test.
use Rattle.std.proofs.Common.{◌≡◌, ℕ, suc, zero, ◌+◌, ◌<◌, Bool, true, false, cond, List, [], ◌∷◌, length, take, drop, get_or, add-one, ◌-◌, refl, ap, ◌∙◌, sym, subst, arith, All}
use Rattle.std.proofs.lemmas.List.{drop-drop, take_rest}
use Rattle.std.proofs.lemmas.Grind.{get_or_default_zero}
use Rattle.std.specs.Prelude.{find, Some, None}

-- n items from place j on
abbrev pub items_from : List ℕ → ℕ → ℕ → List ℕ
items_from xs j zero = []
items_from xs j (suc n) = get_or xs j 0 ∷ items_from xs (suc j) n

items_after : (x : ℕ) (xs : List ℕ) (j n : ℕ) → items_from (x ∷ xs) (suc j) n ≡ items_from xs j n
items_after x xs j zero = refl
items_after x xs j (suc n) = ap (λ ys. get_or xs j 0 ∷ ys) (items_after x xs (suc j) n)

-- a list of n items is these
pub all_items : (xs : List ℕ) (n : ℕ) → length xs ≡ n → items_from xs 0 n ≡ xs
all_items [] zero e = refl
all_items [] (suc n) e = absurd (omega arith)
all_items (x ∷ xs) zero e = absurd (omega arith)
all_items (x ∷ xs) (suc n) e = ap (λ ys. x ∷ ys) (items_after x xs 0 n ∙ all_items xs n (omega arith))

passed_over : (f : ℕ → Bool) (x : ℕ) (xs : List ℕ) → f x ≡ false → find f (x ∷ xs) ≡ find f xs
passed_over f x xs h = ap (λ t. cond t (Some x) (find f xs)) h

found : (f : ℕ → Bool) (x : ℕ) (xs : List ℕ) → f x ≡ true → find f (x ∷ xs) ≡ Some x
found f x xs h = ap (λ t. cond t (Some x) (find f xs)) h

abbrev pub five : List ℕ
five = 0 ∷ 1 ∷ 2 ∷ 3 ∷ 4 ∷ []

pub first_of_five : (f : ℕ → Bool) (b : ℕ) → b < 5 → ((k : ℕ) → k < b → f k ≡ false) → f b ≡ true → find f five ≡ Some b
first_of_five f b h k l = grind (arith, found, passed_over)

pub none_of_five : (f : ℕ → Bool) → ((k : ℕ) → k < 5 → f k ≡ false) → find f five ≡ None
none_of_five f none =
    passed_over f 0 (1 ∷ 2 ∷ 3 ∷ 4 ∷ []) (none 0 (omega arith)) ∙ passed_over f 1 (2 ∷ 3 ∷ 4 ∷ []) (none 1 (omega arith)) ∙ passed_over f 2 (3 ∷ 4 ∷ []) (none 2 (omega arith))
    ∙ passed_over f 3 (4 ∷ []) (none 3 (omega arith)) ∙ passed_over f 4 [] (none 4 (omega arith))

-- what holds of each number at a place holds of each number
pub all_from_places : (xs : List ℕ) (P : ℕ → Type 0) → ((k : ℕ) → k < length xs → P (get_or xs k 0)) → All P xs
all_from_places xs P h = λ k d lt. subst P (sym (get_or_default_zero xs k d lt)) (h k lt)

take_none : (n : ℕ) → take {A = ℕ} n [] ≡ []
take_none n = grind arith

-- a part, without its first item
pub after_first : (xs : List ℕ) (n : ℕ) → take (length (take (n + 1) xs) - 1) (drop 1 (take (n + 1) xs)) ≡ take n (drop 1 xs)
after_first xs n = take_rest (take (n + 1) xs) 1 ∙ first xs n
  where
    first : (ys : List ℕ) (m : ℕ) → drop 1 (take (m + 1) ys) ≡ take m (drop 1 ys)
    first [] m = ap (λ k. drop 1 (take {A = ℕ} k [])) (add-one m) ∙ sym (take_none m)
    first (y ∷ ys) m = ap (λ k. drop 1 (take k (y ∷ ys))) (add-one m)

pub drop_after_first : (xs : List ℕ) (n : ℕ) → drop (n + 1) xs ≡ drop n (drop 1 xs)
drop_after_first xs n = ap (λ k. drop k xs) (omega arith) ∙ sym (drop-drop n 1 xs)
