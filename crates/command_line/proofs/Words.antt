-- What the words of options look like to `clap`.
use Rattle.std.proofs.Common.{◌≡◌, ◌∙◌, sym, ap, refl, arith, Bool, true, false, ◌==◌, ℕ, ◌<◌, [], ◌∷◌, ◌++◌, length, get_or, codes, Option, Some, None, bytes_eq, true≢false, append_assoc}
use Rattle.std.specs.Prelude.{if◌then◌else◌, option_and_then}
use Rattle.std.specs.List.{list_any, before_first, after_first, position_or_len}
use Rattle.std.specs.Str.Parse.{starts_with_minus}
use Rattle.std.proofs.lemmas.Bool.Decides.{nat_tests}
use Rattle.std.proofs.lemmas.List.Sums.{split_at_first, passes_at_first}
use Rattle.std.proofs.lemmas.Grind.{common_steps}
use Rattle.clap.specs.Lexer.{long_of, long_of_rest, strip_byte, short_of, name_and_value, has_byte}
use Rattle.std.proofs.lemmas.Option.{none-some, same_Some}
use Rattle.clap.proofs.LexerLemmas.{name_and_value-at}
use Rattle.clap.proofs.CutLemmas.{Lacks, before_first-Lacks}
use Rattle.command_line.specs.Grammar.{Text, name_word}
use Rattle.command_line.specs.Forms.{option_id}
use Rattle.command_line.specs.declared.options.OptionName.{OptionName}

-- ---- a word that begins with no `-`

pub plain_dashes : (word : Text) → starts_with_minus word ≡ false → bytes_eq word (codes "--") ≡ false
plain_dashes word h = grind (arith, common_steps)

pub plain_long : (word : Text) → starts_with_minus word ≡ false → long_of word ≡ None
plain_long word h = grind arith

pub plain_short : (word : Text) → starts_with_minus word ≡ false → short_of word ≡ None
plain_short word h = grind arith

-- ---- `--name` and `--name=VALUE`

pub named_dashes : (name : OptionName) → bytes_eq (name_word name) (codes "--") ≡ false
named_dashes name = grind arith

pub named_long : (name : OptionName) → long_of (name_word name) ≡ Some (option_id name, None)
named_long name = grind arith

pub valued_dashes : (name : OptionName) (value : Text) → bytes_eq (name_word name ++ codes "=" ++ value) (codes "--") ≡ false
valued_dashes name value = grind arith

lacks_by : (xs : Text) → list_any (λ x. x == 61) xs ≡ false → Lacks 61 xs
lacks_by xs h k l = grind (arith, common_steps)

pub valued_long : (name : OptionName) (value : Text) → long_of (name_word name ++ codes "=" ++ value) ≡ Some (option_id name, Some value)
valued_long name value = grind (arith, name_and_value-at, lacks_by)

-- ---- and back

-- the words of a long name, with or without a value
abbrev pub long_text : Text → Option Text → Text
long_text name None = codes "--" ++ name
long_text name (Some value) = codes "--" ++ (name ++ codes "=" ++ value)

any_within : (p : ℕ → Bool) (t : Text) → list_any p t ≡ true → position_or_len p t < length t
any_within p [] h = absurd (true≢false (sym h))
any_within p (x ∷ xs) h = grind (arith, any_within p xs)

none_before : (t : Text) → list_any (λ x. x == 61) t ≡ false → before_first (λ x. x == 61) t ≡ t
none_before t none = before_first-Lacks 61 t (lacks_by t none)

-- the text of a long name without its dashes
abbrev name_text : Text × Option Text → Text
name_text p = elim p.1 [ None ↦ p.0 | Some value ↦ p.0 ++ codes "=" ++ value ]

name_reported : (t : Text) → t ≡ name_text (name_and_value t)
name_reported t = go (has_byte 61 t) refl
  where
    go : (b : Bool) → has_byte 61 t ≡ b
        → t ≡ name_text (before_first (λ x. x == 61) t, if b then Some (after_first (λ x. x == 61) t) else None)
    go false e = sym (none_before t e)
    go true e =
        let here = any_within (λ x. x == 61) t e in
        let found : get_or t (position_or_len (λ x. x == 61) t) 0 ≡ 61 = grind (arith, nat_tests, passes_at_first (λ x. x == 61) t 0 here) in
        split_at_first (λ x. x == 61) t 0 here
        ∙ ap (λ (c : ℕ). before_first (λ x. x == 61) t ++ c ∷ after_first (λ x. x == 61) t) found
        ∙ sym (append_assoc (before_first (λ x. x == 61) t) (codes "=") (after_first (λ x. x == 61) t))

rest_reported : (rest long : Text) (v : Option Text) → long_of_rest rest ≡ Some (long, v) → rest ≡ name_text (long, v)
rest_reported [] long v h = absurd (none-some (long, v) h)
rest_reported (x ∷ xs) long v h = name_reported (x ∷ xs) ∙ ap name_text (same_Some (name_and_value (x ∷ xs)) (long, v) h)

stripped : (word rest : Text) → strip_byte 45 word ≡ Some rest → word ≡ 45 ∷ rest
stripped word rest h = grind (arith, none-some, nat_tests, same_Some)

long_by : (word long : Text) (v : Option Text) (a b : Option Text) → strip_byte 45 word ≡ a → option_and_then (strip_byte 45) a ≡ b → option_and_then long_of_rest b ≡ Some (long, v)
    → word ≡ long_text long v
long_by word long v None b p q h = absurd (none-some (long, v) (ap (option_and_then long_of_rest) q ∙ h))
long_by word long v (Some one) None p q h = absurd (none-some (long, v) h)
long_by word long v (Some one) (Some two) p q h =
    stripped word one p ∙ ap (λ (t : Text). 45 ∷ t) (stripped one two q) ∙ ap (λ (t : Text). 45 ∷ 45 ∷ t) (rest_reported two long v h) ∙ spelled v
  where
    spelled : (o : Option Text) → 45 ∷ 45 ∷ name_text (long, o) ≡ long_text long o
    spelled None = refl
    spelled (Some value) = refl

pub long_reported : (word long : Text) (v : Option Text) → long_of word ≡ Some (long, v) → word ≡ long_text long v
long_reported word long v h = long_by word long v (strip_byte 45 word) (option_and_then (strip_byte 45) (strip_byte 45 word)) refl refl h
