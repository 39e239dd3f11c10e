-- How options and operands stand after the name of a command.
use Rattle.std.specs.Prelude.{◌≡◌, ℕ, Bool, true, false, if◌then◌else◌, List, [], ◌∷◌, ◌++◌, map, codes, Option, Some, None, unwrap_or}
use Rattle.std.specs.List.{flat_map, filter_map}
use Rattle.std.specs.Borrow.{Bor}
use Rattle.std.specs.Str.Parse.{starts_with_minus}
use Rattle.command_line.specs.declared.options.OptionName.{OptionName}
use Rattle.command_line.specs.declared.options.OptionName.TheVariants.{Offset, Skew, Bits, Version}

abbrev pub Text : Type 0
Text = List ℕ

-- the texts of words
abbrev pub texts : List (Bor Text) → List Text
texts = map (λ w. w.now)

-- the word that names an option
abbrev pub name_word : OptionName → Text
name_word Offset = codes "--offset"
name_word Skew = codes "--skew"
name_word Bits = codes "--bits"
name_word Version = codes "--version"

-- an option with its value, as `--name VALUE` in two words or as `--name=VALUE` in one, or an operand
pub data Piece : Type 0 where
  apart : OptionName → Text → Piece
  joined : OptionName → Text → Piece
  operand : Text → Piece

abbrev pub piece_words : Piece → List Text
piece_words (apart name value) = name_word name ∷ value ∷ []
piece_words (joined name value) = (name_word name ++ codes "=" ++ value) ∷ []
piece_words (operand word) = word ∷ []

-- the value or the operand begins with no `-`
abbrev pub IsPlain : Piece → Type 0
IsPlain (apart name value) = starts_with_minus value ≡ false
IsPlain (joined name value) = starts_with_minus value ≡ false
IsPlain (operand word) = starts_with_minus word ≡ false

abbrev pub ArePlain : List Piece → Type 0
ArePlain [] = Unit {0}
ArePlain (piece ∷ pieces) = IsPlain piece × ArePlain pieces

abbrev pub option_of : Piece → Option (OptionName × Text)
option_of (apart name value) = Some (name, value)
option_of (joined name value) = Some (name, value)
option_of (operand word) = None

abbrev pub operand_of : Piece → Option Text
operand_of (apart name value) = None
operand_of (joined name value) = None
operand_of (operand word) = Some word

-- `--` and the words after it, where it stands
abbrev pub rest_words : Option (List Text) → List Text
rest_words None = []
rest_words (Some words) = codes "--" ∷ words

-- the words are these options, in order, and these operands, in order: piece after piece, and then perhaps
-- `--`, after which each word is an operand
pub record AreArranged (words : List Text) (options : List (OptionName × Text)) (operands : List Text) : Type 0 where
  pub pieces : List Piece
  pub rest : Option (List Text)
  pub words_are : words ≡ flat_map piece_words pieces ++ rest_words rest
  pub plain : ArePlain pieces
  pub options_are : options ≡ filter_map option_of pieces
  pub operands_are : operands ≡ filter_map operand_of pieces ++ unwrap_or rest []

-- ---- the value of an option, which stands at most once

-- options as code holds them
abbrev pub given : List (OptionName × Bor Text) → List (OptionName × Text)
given = map (λ option. (option.0, option.1.now))

abbrev pub is_same : OptionName → OptionName → Bool
is_same Offset Offset = true
is_same Skew Skew = true
is_same Bits Bits = true
is_same Version Version = true
is_same _ _ = false

abbrev pub value_if : OptionName → OptionName × Text → Option Text
value_if name option = if is_same name option.0 then Some option.1 else None

-- the values that options give a name
abbrev pub values_of : OptionName → List (OptionName × Text) → List Text
values_of name options = filter_map (value_if name) options

abbrev pub listed : Option Text → List Text
listed None = []
listed (Some value) = value ∷ []

-- the name stands once, with this value, or it is left out
abbrev pub IsGiven : OptionName → List (OptionName × Text) → Option Text → Type 0
IsGiven name options value = values_of name options ≡ listed value
