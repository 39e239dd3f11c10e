-- The tables of the code hold the words and values of the definitions: each place is computed.
use Rattle.std.proofs.Common.{arith, ◌≡◌, ℕ, ◌<◌, ◌≤◌, Bool, true, cond, List, length, refl, ap, ◌∙◌, ◌==◌, ◌&&◌, eqb-true, nat_eq, nat_lt, slice_index, Option, Some, None}
use Rattle.std.specs.Prelude.{IfSome, unwrap_or}
use Rattle.std.specs.Option.{option_eq}
use Rattle.std.proofs.lemmas.Bool.{cond_below, cond_above, ltb-true}
use Rattle.std.proofs.lemmas.List.Quantifiers.{position-Some}
use Rattle.tmds_word.proofs.Below.{passes_below, passes_at}
use Rattle.terc4.specs.Tables.{control_words, terc_words, value_in}
use Rattle.terc4.specs.declared.tables.TheConstants.{CONTROL_WORDS, TERC_WORDS, CONTROL_CODES, TERC_CODES}

same_option : (a b : Option ℕ) → option_eq nat_eq a b ≡ true → a ≡ b
same_option a b h = grind (arith, eqb-true)

-- the value that a code below a bound stands for; the bound and above stand for none
value_of : ℕ → ℕ → Option ℕ
value_of bound code = cond (nat_lt code bound) (Some code) None

-- whether a place of a table of codes has the value of the word of that number
agrees : List ℕ → List ℕ → ℕ → Bool
agrees codes words w = option_eq nat_eq (value_of (length words) (slice_index codes w)) (value_in words w)

control_agrees : passes_below 1024 (agrees CONTROL_CODES control_words) ≡ true
unfolding passes_below agrees value_of value_in control_words
control_agrees = refl

terc_agrees : passes_below 1024 (agrees TERC_CODES terc_words) ≡ true
unfolding passes_below agrees value_of value_in terc_words
terc_agrees = refl

entry : (codes words : List ℕ) → passes_below 1024 (agrees codes words) ≡ true → (w : ℕ) → w < 1024 → value_of (length words) (slice_index codes w) ≡ value_in words w
unfolding agrees
entry codes words all w lt = same_option _ _ (passes_at 1024 (agrees codes words) w all lt)

some_entry : (codes words : List ℕ) → passes_below 1024 (agrees codes words) ≡ true → (w code : ℕ) → w < 1024 → code ≡ slice_index codes w → code < length words → Some code ≡ value_in words w
unfolding value_of
some_entry codes words all w code lt e few = cond_below code (length words) (Some code) None few ∙ ap (value_of (length words)) e ∙ entry codes words all w lt

none_entry : (codes words : List ℕ) → passes_below 1024 (agrees codes words) ≡ true → (w code : ℕ) → w < 1024 → code ≡ slice_index codes w → length words ≤ code → None ≡ value_in words w
unfolding value_of
none_entry codes words all w code lt e many = cond_above code (length words) (Some code) None None many refl ∙ ap (value_of (length words)) e ∙ entry codes words all w lt

pub some_control : (w code : ℕ) → w < 1024 → code ≡ slice_index CONTROL_CODES w → code < 4 → Some code ≡ value_in control_words w
unfolding control_words
some_control = some_entry CONTROL_CODES control_words control_agrees

pub no_control : (w code : ℕ) → w < 1024 → code ≡ slice_index CONTROL_CODES w → 4 ≤ code → None ≡ value_in control_words w
unfolding control_words
no_control = none_entry CONTROL_CODES control_words control_agrees

pub some_terc : (w code : ℕ) → w < 1024 → code ≡ slice_index TERC_CODES w → code < 16 → Some code ≡ value_in terc_words w
unfolding terc_words
some_terc = some_entry TERC_CODES terc_words terc_agrees

pub no_terc : (w code : ℕ) → w < 1024 → code ≡ slice_index TERC_CODES w → 16 ≤ code → None ≡ value_in terc_words w
unfolding terc_words
no_terc = none_entry TERC_CODES terc_words terc_agrees

-- and the code itself is the value, or 16
has_code : ℕ → Bool
has_code w = (slice_index TERC_CODES w == unwrap_or (value_in terc_words w) 16) && nat_lt (slice_index TERC_CODES w) 17

all_codes : passes_below 1024 has_code ≡ true
unfolding passes_below has_code value_in terc_words
all_codes = refl

pub record IsCode (w code : ℕ) : Type 0 where
  pub value : code ≡ unwrap_or (value_in terc_words w) 16
  pub most : code < 17

code_both : (w : ℕ) (code : ℕ) → code ≡ slice_index TERC_CODES w → has_code w ≡ true → IsCode w code
unfolding has_code
code_both w code e h = grind (arith, eqb-true, ltb-true)

pub terc_code_is : (w code : ℕ) → w < 1024 → code ≡ slice_index TERC_CODES w → IsCode w code
terc_code_is w code lt e = code_both w code e (passes_at 1024 has_code w all_codes lt)

-- a value is the place of one of the table's words
below_length : (o : Option ℕ) (n : ℕ) → ((v : ℕ) → o ≡ Some v → v < n) → IfSome o (λ v. v < n)
below_length o n h = grind arith

pub value_below : (words : List ℕ) (w : ℕ) → IfSome (value_in words w) (λ v. v < length words)
unfolding value_in
value_below words w = below_length _ _ (λ v h. (position-Some (λ x. x == w) words v 0 h).0)

-- the words that are looked up by their values are those of the definitions
pub control_word_is : (v : ℕ) → slice_index CONTROL_WORDS v ≡ slice_index control_words v
unfolding control_words
control_word_is v = refl

pub terc_word_is : (v : ℕ) → slice_index TERC_WORDS v ≡ slice_index terc_words v
unfolding terc_words
terc_word_is v = refl

-- each word of a table has its place as its value
has_its_place : List ℕ → ℕ → Bool
has_its_place words v = option_eq nat_eq (value_in words (slice_index words v)) (Some v)

terc_places : passes_below 16 (has_its_place terc_words) ≡ true
unfolding passes_below has_its_place value_in terc_words
terc_places = refl

pub value_of_terc : (v : ℕ) → v < 16 → value_in terc_words (slice_index terc_words v) ≡ Some v
unfolding has_its_place
value_of_terc v lt = same_option _ _ (passes_at 16 (has_its_place terc_words) v terc_places lt)
