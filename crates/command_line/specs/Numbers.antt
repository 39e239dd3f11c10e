-- The numbers of words.
use Rattle.std.specs.Prelude.{◌≡◌, ℕ, ◌+◌, ◌-◌, ◌*◌, ◌≤◌, Bool, ◌&&◌, if◌then◌else◌, nat_le, List, [], ◌∷◌, ◌++◌, length, codes, Option, Some, None}
use Rattle.std.specs.List.{list_all}

abbrev pub is_digit : ℕ → Bool
is_digit c = nat_le 48 c && nat_le c 57

-- the number of decimal digits, the highest first, after those of n
unfoldable pub digits_after : ℕ → List ℕ → ℕ
digits_after n [] = n
digits_after n (d ∷ ds) = digits_after (10 * n + (d - 48)) ds

-- one to ten decimal digits are a number
unfoldable pub number_of : List ℕ → Option ℕ
number_of digits =
    if nat_le 1 (length digits) && (nat_le (length digits) 10 && list_all is_digit digits) then Some (digits_after 0 digits) else None

-- a text of one to ten decimal digits, whose number is at most so great
pub record IsNumber (most : ℕ) (text : List ℕ) (n : ℕ) : Type 0 where
  pub digits : number_of text ≡ Some n
  pub few : n ≤ most

-- the text of a number of one digit
abbrev pub digit_text : ℕ → List ℕ
digit_text n = (48 + n) ∷ []

-- three numbers with commas between them, each at most so great
pub record AreThree (most : ℕ) (text : List ℕ) (a b c : ℕ) : Type 0 where
  pub first : List ℕ
  pub second : List ℕ
  pub third : List ℕ
  pub text_is : text ≡ first ++ codes "," ++ second ++ codes "," ++ third
  pub first_is : IsNumber most first a
  pub second_is : IsNumber most second b
  pub third_is : IsNumber most third c
