-- The commands of the program, by the words of the command line.
use Rattle.std.specs.Prelude.{◌≡◌, ℕ, ◌<◌, ◌≤◌, List, [], ◌∷◌, length, codes, Option, Some, None}
use Rattle.command_line.specs.Numbers.{IsNumber, AreThree, digit_text}
use Rattle.command_line.specs.Damages.{AreDamages}
use Rattle.command_line.specs.Slips.{IsSlip}
use Rattle.command_line.specs.Grammar.{Text, IsGiven, AreArranged}
use Rattle.command_line.specs.declared.options.OptionName.{OptionName}
use Rattle.command_line.specs.declared.options.OptionName.TheVariants.{Offset, Skew, Bits, Version}
use Rattle.command_line.specs.declared.tap.TapWords.{TapWords}
use Rattle.command_line.specs.declared.tap.TheConstants.{SKEW_LIMIT}
use Rattle.command_line.specs.declared.command.Command.{Command}
use Rattle.command_line.specs.declared.command.Command.TheVariants.{MakeLink, MakeContent, MakeDvi, RecoverLink, RecoverContent, RecoverTrack, RecoverRelock, RecoverContentRelock, RecoverBiphase, RecoverDvi, Check, Damage, Slip, ReadBiphase, Relay, Sample}

-- what the value of an option says, or that it is left out

abbrev pub IsOffset : Option Text → ℕ → Type 0
IsOffset (Some text) offset = IsNumber 4294967295 text offset
IsOffset None offset = offset ≡ 0

abbrev pub AreSkews : Option Text → List ℕ → Type 0
AreSkews (Some text) skews = (a b c : ℕ) × AreThree SKEW_LIMIT text a b c × (skews ≡ a ∷ b ∷ c ∷ [])
AreSkews None skews = skews ≡ 0 ∷ 0 ∷ 0 ∷ []

abbrev pub IsLimit : Option Text → Option ℕ → Type 0
IsLimit (Some text) limit = (n : ℕ) × IsNumber 4294967295 text n × (limit ≡ Some n)
IsLimit None limit = limit ≡ None

abbrev pub IsVersion : Option Text → ℕ → Type 0
IsVersion (Some text) version = IsNumber 2 text version × (1 ≤ version)
IsVersion None version = version ≡ 1

-- the options of a tap, each at most once
pub record IsTap (options : List (OptionName × Text)) (tap : TapWords) : Type 0 where
  pub offset_text : Option Text
  pub skew_text : Option Text
  pub bits_text : Option Text
  pub version_text : Option Text
  pub offset_given : IsGiven Offset options offset_text
  pub skew_given : IsGiven Skew options skew_text
  pub bits_given : IsGiven Bits options bits_text
  pub version_given : IsGiven Version options version_text
  pub offset : IsOffset offset_text tap.offset
  pub skews : AreSkews skew_text tap.skews
  pub bits : IsLimit bits_text tap.bits
  pub version : IsVersion version_text tap.version

-- what a command's name, its options and its operands ask for: `make link`, `make content` and `make dvi` with options,
-- `recover link`, `recover content`, `recover track`, `recover relock`, `recover content relock`, `recover biphase K`,
-- `recover dvi`, `check`, `damage` with one operand or more, `slip L:P:D`, `read biphase`, `relay` and `sample N`
abbrev pub Means : Command → Text → List (OptionName × Text) → List Text → Type 0
Means (MakeLink tap) name options operands = (name ≡ codes "make") × (operands ≡ codes "link" ∷ []) × IsTap options tap
Means (MakeContent tap) name options operands = (name ≡ codes "make") × (operands ≡ codes "content" ∷ []) × IsTap options tap
Means (MakeDvi tap) name options operands = (name ≡ codes "make") × (operands ≡ codes "dvi" ∷ []) × IsTap options tap
Means RecoverLink name options operands = (name ≡ codes "recover") × (operands ≡ codes "link" ∷ []) × (options ≡ [])
Means RecoverContent name options operands = (name ≡ codes "recover") × (operands ≡ codes "content" ∷ []) × (options ≡ [])
Means RecoverTrack name options operands = (name ≡ codes "recover") × (operands ≡ codes "track" ∷ []) × (options ≡ [])
Means RecoverRelock name options operands = (name ≡ codes "recover") × (operands ≡ codes "relock" ∷ []) × (options ≡ [])
Means RecoverContentRelock name options operands = (name ≡ codes "recover") × (operands ≡ codes "content" ∷ codes "relock" ∷ []) × (options ≡ [])
Means (RecoverBiphase k) name options operands = (name ≡ codes "recover") × ((operands ≡ codes "biphase" ∷ digit_text k ∷ []) × (k ≤ 3)) × (options ≡ [])
Means RecoverDvi name options operands = (name ≡ codes "recover") × (operands ≡ codes "dvi" ∷ []) × (options ≡ [])
Means Check name options operands = (name ≡ codes "check") × (operands ≡ []) × (options ≡ [])
Means (Damage damages) name options operands = (name ≡ codes "damage") × (AreDamages operands damages × (0 < length operands)) × (options ≡ [])
Means (Slip slip) name options operands = (name ≡ codes "slip") × ((text : Text) × (operands ≡ text ∷ []) × IsSlip text slip) × (options ≡ [])
Means ReadBiphase name options operands = (name ≡ codes "read") × (operands ≡ codes "biphase" ∷ []) × (options ≡ [])
Means Relay name options operands = (name ≡ codes "relay") × (operands ≡ []) × (options ≡ [])
Means (Sample n) name options operands = (name ≡ codes "sample") × ((text : Text) × (operands ≡ text ∷ []) × IsNumber 20 text n × (2 ≤ n)) × (options ≡ [])

-- the words are a command's name, and after it its options and operands
pub record IsCommand (words : List Text) (command : Command) : Type 0 where
  pub name : Text
  pub after : List Text
  pub options : List (OptionName × Text)
  pub operands : List Text
  pub words_are : words ≡ name ∷ after
  pub arranged : AreArranged after options operands
  pub means : Means command name options operands
