-- The texts of options: a number, and three numbers with commas between them.
use Rattle.std.proofs.Common.{◌≡◌, ◌∙◌, refl, sym, ap, arith, ℕ, ◌<◌, true, false, List, [], ◌∷◌, ◌++◌, length, get_or, Bor, length-append, append_assoc}
use Rattle.std.specs.Prelude.{MatchOption, Option, Some, None, nat_lt, codes}
use Rattle.std.specs.List.{position_or_len, before_first, after_first, list_all, list_any}
use Rattle.std.proofs.lemmas.Grind.{common_steps}
use Rattle.std.proofs.lemmas.Option.{none-some, same_Some, cond_some}
use Rattle.std.proofs.lemmas.List.Sums.{split_at_first, passes_at_first}
use Rattle.std.proofs.lemmas.Bool.{and_parts}
use Rattle.std.proofs.Math.Seq.{take-append_seam, drop-append-add}
use Rattle.command_line.specs.Numbers.{number_of, is_digit, IsNumber, AreThree}
use Rattle.command_line.specs.Parsing.{within, mark_split, is_mark, three_by, three_after, three_parted, three_of}

-- a number

-- what is read is the number of the text
pub number_reported : (most : ℕ) (text : List ℕ) (n : ℕ) → within most text ≡ Some n → IsNumber most text n
unfolding within
number_reported most text n h = grind (arith, none-some, cond_some, common_steps)

-- the number of a text is read
pub number_found : (most : ℕ) (text : List ℕ) (n : ℕ) → IsNumber most text n → within most text ≡ Some n
unfolding within
number_found most text n is = grind (arith, common_steps)

-- a text has one number or none
pub number_judged : (most : ℕ) (text : List ℕ) (read : Option ℕ) → read ≡ within most text → MatchOption read ((n : ℕ) → IsNumber most text n → ⊥) (λ n. IsNumber most text n)
number_judged most text read h = grind (arith, none-some, number_found, number_reported)

-- the digits of a number
pub digits_are : (text : List ℕ) (n : ℕ) → number_of text ≡ Some n → list_all is_digit text ≡ true
unfolding number_of
digits_are text n e = grind (arith, common_steps)

-- the first mark

-- what parts a text at its first mark
pub split_reported : (mark : ℕ) (text : List ℕ) (r : Option (Bor (List ℕ) × Bor (List ℕ)))
    → MatchOption r (position_or_len (is_mark mark) text ≡ length text) (λ x. (position_or_len (is_mark mark) text < length text) × (x.0.now ≡ before_first (is_mark mark) text) × (x.1.now ≡ after_first (is_mark mark) text))
    → MatchOption r (mark_split mark text ≡ None) (λ x. mark_split mark text ≡ Some (x.0.now, x.1.now))
unfolding mark_split
split_reported mark text r h = grind (arith, common_steps)

-- a text is what stands before its first mark, the mark, and what stands after it
pub split_parts : (mark : ℕ) (text : List ℕ) (parts : List ℕ × List ℕ) → mark_split mark text ≡ Some parts → text ≡ parts.0 ++ mark ∷ parts.1
unfolding mark_split
split_parts mark text parts e =
    let reported = cond_some (nat_lt (position_or_len (is_mark mark) text) (length text)) (before_first (is_mark mark) text, after_first (is_mark mark) text) parts e in
    let tested : nat_lt (position_or_len (is_mark mark) text) (length text) ≡ true = reported.0 in
    let here : position_or_len (is_mark mark) text < length text = grind (arith, common_steps) in
    let found : get_or text (position_or_len (is_mark mark) text) 0 ≡ mark = grind (arith, common_steps, passes_at_first (is_mark mark) text 0 here) in
    grind (arith, split_at_first)

-- a mark is itself, and no digit
pub record IsApart (mark : ℕ) : Type 0 where
  pub own : is_mark mark mark ≡ true
  pub other : (c : ℕ) → is_digit c ≡ true → is_mark mark c ≡ false

colon_other : (c : ℕ) → is_digit c ≡ true → is_mark 58 c ≡ false
colon_other c digit = grind (arith, common_steps)

pub colon : IsApart 58
colon = record { own = refl; other = colon_other }

-- what has no mark stands before the first mark
front_first : (mark : ℕ) (front rest : List ℕ) → is_mark mark mark ≡ true → list_any (is_mark mark) front ≡ false → position_or_len (is_mark mark) (front ++ mark ∷ rest) ≡ length front
front_first mark [] rest own none = rw own refl
front_first mark (c ∷ cs) rest own none = grind (arith, front_first mark cs rest own)

pub split_first : (mark : ℕ) (front rest : List ℕ) → is_mark mark mark ≡ true → list_any (is_mark mark) front ≡ false → mark_split mark (front ++ mark ∷ rest) ≡ Some (front, rest)
unfolding mark_split
split_first mark front rest own none = grind (arith, front_first, length-append, common_steps, take-append_seam, drop-append-add)

no_mark : (mark : ℕ) (digits : List ℕ) → IsApart mark → list_all is_digit digits ≡ true → list_any (is_mark mark) digits ≡ false
no_mark mark [] apart all = refl
no_mark mark (d ∷ ds) apart all = grind (arith, and_parts, no_mark mark ds apart)

pub split_found : (mark : ℕ) (digits rest : List ℕ) → IsApart mark → list_all is_digit digits ≡ true → mark_split mark (digits ++ mark ∷ rest) ≡ Some (digits, rest)
split_found mark digits rest apart all = split_first mark digits rest apart.own (no_mark mark digits apart all)

-- three numbers

commas_in_order : (first second third : List ℕ) → first ++ codes "," ++ second ++ codes "," ++ third ≡ first ++ (codes "," ++ (second ++ (codes "," ++ third)))
commas_in_order first second third = simp append_assoc

-- the numbers of three that are read
three_by_reported : (o p q : Option ℕ) (skews : List ℕ) → three_by o p q ≡ Some skews → (a b c : ℕ) × (o ≡ Some a) × (p ≡ Some b) × (q ≡ Some c) × (skews ≡ a ∷ b ∷ c ∷ [])
three_by_reported o p q skews h = grind (arith, same_Some, none-some)

three_after_reported : (most : ℕ) (text first rest : List ℕ) (skews : List ℕ) (o : Option (List ℕ × List ℕ)) → text ≡ first ++ (codes "," ++ rest) → mark_split 44 rest ≡ o
    → three_after most first o ≡ Some skews → (a b c : ℕ) × AreThree most text a b c × (skews ≡ a ∷ b ∷ c ∷ [])
three_after_reported most text first rest skews None h k l = absurd (none-some skews l)
three_after_reported most text first rest skews (Some parts) h k l =
    let r = three_by_reported _ _ _ skews l in
    let text_is = h ∙ ap (λ t. first ++ (codes "," ++ t)) (split_parts 44 rest parts k) ∙ sym (commas_in_order first parts.0 parts.1) in
    let first_is = number_reported most first r.0 r.3 in
    let second_is = number_reported most parts.0 r.1 r.4 in
    let third_is = number_reported most parts.1 r.2 r.5 in
    (r.0, r.1, r.2, record { first = first; second = parts.0; third = parts.1; text_is = text_is; first_is = first_is; second_is = second_is; third_is = third_is }, r.6)

three_parted_reported : (most : ℕ) (text : List ℕ) (skews : List ℕ) (o : Option (List ℕ × List ℕ)) → mark_split 44 text ≡ o → three_parted most o ≡ Some skews
    → (a b c : ℕ) × AreThree most text a b c × (skews ≡ a ∷ b ∷ c ∷ [])
three_parted_reported most text skews None e h = absurd (none-some skews h)
three_parted_reported most text skews (Some parts) e h =
    three_after_reported most text parts.0 parts.1 skews (mark_split 44 parts.1) (split_parts 44 text parts e) refl h

-- what is read are three numbers of the text
pub three_reported : (most : ℕ) (text : List ℕ) (skews : List ℕ) → three_of most text ≡ Some skews → (a b c : ℕ) × AreThree most text a b c × (skews ≡ a ∷ b ∷ c ∷ [])
unfolding three_of
three_reported most text skews h = three_parted_reported most text skews (mark_split 44 text) refl h

-- three numbers of a text are read
pub three_found : (most : ℕ) (text : List ℕ) (a b c : ℕ) → AreThree most text a b c → three_of most text ≡ Some (a ∷ b ∷ c ∷ [])
unfolding three_of
three_found most text a b c is = grind (arith, commas_in_order, split_found, digits_are, number_found, common_steps)
