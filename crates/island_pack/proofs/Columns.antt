-- The nibbles of lanes, and how many words have none.
use Rattle.std.proofs.Common.{◌≡◌, ℕ, ◌+◌, ◌/◌, ◌%◌, ◌<◌, ◌∙◌, ap, refl, Bool, not, List, [], length, take, get_or, sym, subst, arith, slice_index, Option, Some, None, All}
use Rattle.std.specs.Prelude.{count_by, unwrap_or, is_some, IfSome}
use Rattle.std.proofs.lemmas.List.{get_or-map, length-map}
use Rattle.std.proofs.lemmas.List.Sums.{count_by_more_yes, count_by_more_no}
use mir.Val.{bool_byte}
use Rattle.terc4.specs.Tables.{terc_words, value_in, is_terc}
use Rattle.terc4.proofs.Entries.{value_below}
use Rattle.terc4.proofs.Members.{is_some-value_in}
use Rattle.island_pack.specs.Nibbles.{nibble_of, nibbles_of}
use Rattle.island_pack.specs.Registers.{code_of}

pub not-not : (b : Bool) → not (not b) ≡ b
not-not b = grind arith

pub count_more : (p : List ℕ → Bool) (xs : List (List ℕ)) (i : ℕ) (d : List ℕ) (b : Bool) → i < length xs → p (get_or xs i d) ≡ b
    → count_by p (take (i + 1) xs) ≡ count_by p (take i xs) + bool_byte b
count_more p xs i d b h k = grind (arith, count_by_more_yes, count_by_more_no)

zero_or_value : (o : Option ℕ) → IfSome o (λ v. v < 16) → unwrap_or o 0 < 16
zero_or_value o h = grind arith

value_below_16 : (w : ℕ) → IfSome (value_in terc_words w) (λ v. v < 16)
unfolding terc_words
value_below_16 w = value_below terc_words w

pub nibble_below : (w : ℕ) → nibble_of w < 16
unfolding nibble_of
nibble_below w = zero_or_value (value_in terc_words w) (value_below_16 w)

below_17 : (o : Option ℕ) → IfSome o (λ v. v < 16) → unwrap_or o 16 < 17
below_17 o h = grind arith

pub code_below : (w : ℕ) → code_of w < 17
unfolding code_of
code_below w = below_17 (value_in terc_words w) (value_below_16 w)

-- A code says whether its word is a TERC4 word, and its nibble.

nibble_in : (o : Option ℕ) → IfSome o (λ v. v < 16) → unwrap_or o 16 % 16 ≡ unwrap_or o 0
nibble_in None h = refl
nibble_in (Some v) h = omega arith

strange_in : (o : Option ℕ) → IfSome o (λ v. v < 16) → unwrap_or o 16 / 16 ≡ bool_byte (not (is_some o))
strange_in None h = refl
strange_in (Some v) h = omega arith

pub nibble_of_code : (w : ℕ) → code_of w % 16 ≡ nibble_of w
unfolding code_of nibble_of
nibble_of_code w = nibble_in (value_in terc_words w) (value_below_16 w)

pub strange_of_code : (w : ℕ) → code_of w / 16 ≡ bool_byte (not (is_terc w))
unfolding code_of is_terc
strange_of_code w = strange_in (value_in terc_words w) (value_below_16 w) ∙ ap (λ b. bool_byte (not b)) (is_some-value_in terc_words w)

pub nibbles_below : (columns : List (List ℕ)) (lane : ℕ) → All (λ n. n < 16) (nibbles_of columns lane)
unfolding nibbles_of
nibbles_below columns lane = λ k d lt.
    let f : List ℕ → ℕ = λ words. nibble_of (slice_index words lane) in
    subst (λ n. n < 16) (sym (get_or-map f columns k [] d (subst (λ m. k < m) (length-map columns f) lt))) (nibble_below (slice_index (get_or columns k []) lane))

pub length-nibbles_of : (columns : List (List ℕ)) (lane : ℕ) → length (nibbles_of columns lane) ≡ length columns
unfolding nibbles_of
length-nibbles_of columns lane = length-map columns (λ words. nibble_of (slice_index words lane))
