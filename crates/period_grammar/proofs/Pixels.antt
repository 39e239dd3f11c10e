-- The first of some columns that pass a test.
use Rattle.std.proofs.Common.{◌≡◌, ℕ, zero, suc, ◌+◌, ◌<◌, ◌≤◌, Bool, true, false, cond, List, [], ◌∷◌, ◌++◌, length, take, drop, refl, ap, sym, subst, ◌∙◌, arith, append_assoc, All, Some, slice_get}
use Rattle.std.specs.List.{prefix_len}
use Rattle.std.proofs.lemmas.List.{take_all, take_more, length-take-le}
use Rattle.std.proofs.lemmas.List.Elements.{All-nil, All-cons, All-head, All-tail}
use Rattle.std.proofs.lemmas.List.Sums.{prefix_len-drop_all, prefix_len-drop_no, prefix_len-drop_yes}
use Rattle.std.proofs.lemmas.Option.{slice_get_within, get_or_from_slice_get}
use Rattle.tmds_word.specs.Column.{Column}

-- the first n pass a test
pub prefix_pass : (p : Column → Bool) (n : ℕ) (cs : List Column) → n ≤ length cs → All (λ c. p c ≡ true) (take n cs) → prefix_len p cs ≡ n + prefix_len p (drop n cs)
prefix_pass p zero cs le all = omega arith
prefix_pass p (suc n) [] le all = absurd (omega arith)
prefix_pass p (suc n) (c ∷ cs) le all = grind (arith, All-tail (λ c. p c ≡ true) c (take n cs) all, All-head (λ c. p c ≡ true) c (take n cs) all, prefix_pass p n cs)

front_all : (p : Column → Bool) (c : Column) (cs : List Column) (q : Bool) → p c ≡ q → All (λ d. p d ≡ true) (take (prefix_len p cs) cs) → All (λ d. p d ≡ true) (take (cond q (1 + prefix_len p cs) 0) (c ∷ cs))
front_all p c cs q h k = grind (arith, All-nil, All-cons)

-- those before the first that does not pass
pub prefix_all : (p : Column → Bool) (cs : List Column) → All (λ c. p c ≡ true) (take (prefix_len p cs) cs)
prefix_all p [] = All-nil (λ c. p c ≡ true)
prefix_all p (c ∷ cs) = front_all p c cs (p c) refl (prefix_all p cs)

front_take : (q : Bool) (m k n : ℕ) → (k < n → m ≡ k) → cond q (1 + k) 0 < suc n → cond q (1 + m) 0 ≡ cond q (1 + k) 0
front_take q m k n h l = grind arith

-- the first that pass, among the first n
pub prefix_take : (p : Column → Bool) (n : ℕ) (cs : List Column) → n ≤ length cs → prefix_len p (take n cs) < n → prefix_len p cs ≡ prefix_len p (take n cs)
prefix_take p zero cs le lt = absurd (omega arith)
prefix_take p (suc n) [] le lt = absurd (omega arith)
prefix_take p (suc n) (c ∷ cs) le lt = front_take (p c) (prefix_len p cs) (prefix_len p (take n cs)) n (prefix_take p n cs (omega arith)) lt

pub prefix_whole : (p : Column → Bool) (n : ℕ) (cs : List Column) → n ≤ length cs → prefix_len p (take n cs) ≡ n → prefix_len p cs ≡ n + prefix_len p (drop n cs)
prefix_whole p n cs le e =
    prefix_pass p n cs le (subst (λ (ds : List Column). All (λ c. p c ≡ true) ds) (ap (λ m. take m (take n cs)) e ∙ take_all n (take n cs) (omega (arith, length-take-le n cs le))) (prefix_all p (take n cs)))

-- One column after another.

pub step_yes : (p : Column → Bool) (cols : List Column) (i n : ℕ) (d : Column) → slice_get cols i ≡ Some d → p d ≡ true → n ≡ i + prefix_len p (drop i cols) → n ≡ (i + 1) + prefix_len p (drop (i + 1) cols)
step_yes p cols i n d e passes was =
    let more = prefix_len-drop_yes p cols i d (slice_get_within cols i d e) (ap p (get_or_from_slice_get cols i d d e) ∙ passes) in
    omega (arith, more, was)

pub step_no : (p : Column → Bool) (cols : List Column) (i n : ℕ) (d : Column) → slice_get cols i ≡ Some d → p d ≡ false → n ≡ i + prefix_len p (drop i cols) → i ≡ n
step_no p cols i n d e fails was =
    let none = prefix_len-drop_no p cols i d (slice_get_within cols i d e) (ap p (get_or_from_slice_get cols i d d e) ∙ fails) in
    omega (arith, none, was)

pub step_end : (p : Column → Bool) (cols : List Column) (i n : ℕ) → length cols ≤ i → n ≡ i + prefix_len p (drop i cols) → i ≡ n
step_end p cols i n le was =
    let none = prefix_len-drop_all p cols i le in
    omega (arith, none, was)

pub take_next : (cols : List Column) (i : ℕ) (d : Column) → slice_get cols i ≡ Some d → take (i + 1) cols ≡ take i cols ++ d ∷ []
take_next cols i d e = take_more cols i d (slice_get_within cols i d e) ∙ ap (λ c. take i cols ++ c ∷ []) (get_or_from_slice_get cols i d d e)

pub next_take : (cs cols : List Column) (i : ℕ) (d : Column) → slice_get cols i ≡ Some d → (cs ++ take i cols) ++ d ∷ [] ≡ cs ++ take (i + 1) cols
next_take cs cols i d e = append_assoc cs (take i cols) (d ∷ []) ∙ ap (λ xs. cs ++ xs) (sym (take_next cols i d e))
