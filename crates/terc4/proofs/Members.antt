-- Membership of a table: cases by the table's words, tests of each of them, and the least place.
use Rattle.std.proofs.Common.{◌≡◌, ℕ, suc, ◌+◌, Bool, true, false, not, cond, List, [], ◌∷◌, length, refl, ap, ◌∙◌, subst, arith, ◌==◌, ◌||◌, ◌&&◌, eqb-true, nat_lt, Some, None, is_some}
use Rattle.std.specs.List.{position_or_len}
use Rattle.tmds_word.proofs.Below.{and-left, and-right}
use Rattle.terc4.specs.Tables.{control_words, value_in, is_in, is_control}

-- a test of each word of a table
unfoldable pub passes_all : (ℕ → Bool) → List ℕ → Bool
passes_all p [] = true
passes_all p (x ∷ xs) = p x && passes_all p xs

either : (P : Type 0) (a b : Bool) → (a ≡ true → P) → (b ≡ true → P) → (a || b) ≡ true → P
either P true b f g h = f refl
either P false b f g h = g h

-- what each word of a table passes, a word in the table passes
pub passes_in : (p : ℕ → Bool) (words : List ℕ) (w : ℕ) → passes_all p words ≡ true → is_in words w ≡ true → p w ≡ true
unfolding passes_all is_in
passes_in p [] w all h = cc
passes_in p (x ∷ xs) w all h = grind (arith, eqb-true, and-left, and-right, passes_in p xs w)

-- what holds of the four control words holds of each control word
pub by_control : (P : ℕ → Type 0) → P 852 → P 171 → P 340 → P 683 → (w : ℕ) → is_control w ≡ true → P w
unfolding is_control is_in control_words
by_control P pa pb pc pd w =
    either (P w) (852 == w) ((171 == w) || ((340 == w) || ((683 == w) || false)))
    (λ e. subst P (eqb-true 852 w e) pa)
    (either (P w) (171 == w) ((340 == w) || ((683 == w) || false))
    (λ e. subst P (eqb-true 171 w e) pb)
    (either (P w) (340 == w) ((683 == w) || false)
    (λ e. subst P (eqb-true 340 w e) pc)
    (either (P w) (683 == w) false
    (λ e. subst P (eqb-true 683 w e) pd)
    (λ e. cc))))

first_or_later : (b : Bool) (n m : ℕ) → nat_lt (cond (not b) (1 + n) 0) (suc m) ≡ (b || nat_lt n m)
first_or_later b n m = grind arith

place_below : (words : List ℕ) (w : ℕ) → nat_lt (position_or_len (λ x. x == w) words) (length words) ≡ is_in words w
unfolding is_in
place_below [] w = refl
place_below (x ∷ xs) w =
    first_or_later (x == w) (position_or_len (λ y. y == w) xs) (length xs) ∙ ap (λ b. (x == w) || b) (place_below xs w)

some_if : (b : Bool) (n : ℕ) → is_some (cond b (Some n) None) ≡ b
some_if b n = grind arith

-- a word has a value in a table exactly where it stands in the table
pub is_some-value_in : (words : List ℕ) (w : ℕ) → is_some (value_in words w) ≡ is_in words w
unfolding value_in
is_some-value_in words w = some_if _ _ ∙ place_below words w
