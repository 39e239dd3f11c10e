-- What the values of options say.
use Rattle.std.proofs.Common.{◌≡◌, ◌∙◌, sym, subst, arith, ℕ, List, [], ◌∷◌, Option, Some, None}
use Rattle.std.specs.Prelude.{MatchOption}
use Rattle.std.proofs.lemmas.Option.{none-some, same_Some}
use Rattle.command_line.specs.Numbers.{IsNumber}
use Rattle.command_line.specs.Parsing.{within, three_of}
use Rattle.command_line.specs.Grammar.{Text, IsGiven}
use Rattle.command_line.specs.Commands.{IsOffset, AreSkews, IsLimit, IsVersion, IsTap}
use Rattle.command_line.specs.declared.tap.TapWords.{TapWords}
use Rattle.command_line.specs.declared.options.OptionName.{OptionName}
use Rattle.command_line.specs.declared.options.OptionName.TheVariants.{Offset, Skew, Bits, Version}
use Rattle.command_line.proofs.Triples.{number_found, three_reported, three_found}
use Rattle.command_line.proofs.GivenOptions.{given_once}

abbrev Options : Type 0
Options = List (OptionName × Text)

-- the value that stands is the one that was found
pub same_text : (name : OptionName) (options : Options) (text value : Option Text) → IsGiven name options text → IsGiven name options value → text ≡ value
same_text name options text value g h = given_once text value (sym g ∙ h)

pub no_number : (most : ℕ) (t : Text) (n : ℕ) → within most t ≡ None → IsNumber most t n → ⊥
no_number most t n none is = none-some n (sym none ∙ number_found most t n is)

pub same_number : (most : ℕ) (t : Text) (m n : ℕ) → within most t ≡ Some m → IsNumber most t n → m ≡ n
same_number most t m n e is = same_Some m n (sym e ∙ number_found most t n is)

pub skews_judged : (t : Text) (r : Option (List ℕ)) → r ≡ three_of 4095 t → MatchOption r ((skews : List ℕ) → AreSkews (Some t) skews → ⊥) (λ skews. AreSkews (Some t) skews)
skews_judged t None e = λ skews are. none-some (are.0 ∷ are.1 ∷ are.2 ∷ []) (e ∙ three_found 4095 t are.0 are.1 are.2 are.3)
skews_judged t (Some skews) e = three_reported 4095 t skews (sym e)

pub other_version : (t : Text) (m : ℕ) → within 2 t ≡ Some m → (m ≡ 1 → ⊥) → (m ≡ 2 → ⊥) → (n : ℕ) → IsVersion (Some t) n → ⊥
other_version t m e one two = grind (arith, same_number)

-- an option whose value is of another form asks for no tap

pub no_offset : (options : Options) (t : Option Text) → IsGiven Offset options t → ((n : ℕ) → IsOffset t n → ⊥) → (tap : TapWords) → IsTap options tap → ⊥
no_offset options t g none tap is = none tap.offset (subst (λ (o : Option Text). IsOffset o tap.offset) (same_text Offset options is.offset_text t is.offset_given g) is.offset)

pub no_skews : (options : Options) (t : Option Text) → IsGiven Skew options t → ((n : List ℕ) → AreSkews t n → ⊥) → (tap : TapWords) → IsTap options tap → ⊥
no_skews options t g none tap is = none tap.skews (subst (λ (o : Option Text). AreSkews o tap.skews) (same_text Skew options is.skew_text t is.skew_given g) is.skews)

pub no_limit : (options : Options) (t : Option Text) → IsGiven Bits options t → ((n : Option ℕ) → IsLimit t n → ⊥) → (tap : TapWords) → IsTap options tap → ⊥
no_limit options t g none tap is = none tap.bits (subst (λ (o : Option Text). IsLimit o tap.bits) (same_text Bits options is.bits_text t is.bits_given g) is.bits)

pub no_version : (options : Options) (t : Option Text) → IsGiven Version options t → ((n : ℕ) → IsVersion t n → ⊥) → (tap : TapWords) → IsTap options tap → ⊥
no_version options t g none tap is = none tap.version (subst (λ (o : Option Text). IsVersion o tap.version) (same_text Version options is.version_text t is.version_given g) is.version)
