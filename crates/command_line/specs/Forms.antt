-- The commands as they are given to `clap`, and what it finds of options and operands.
use Rattle.std.specs.Prelude.{◌≡◌, ◌⊎◌, MatchOption, Bool, true, false, List, [], ◌∷◌, codes, Option, Some, None, option_map, find}
use Rattle.std.specs.Str.{bytes_eq}
use Rattle.clap.specs.Facts.{explicit_source}
use Rattle.clap.specs.Words.{App, Row, Rule, fault_of, subcommand_of, new_app, new_rule, with_rule, with_subcommand}
use Rattle.clap.specs.declared.builder.action.ArgAction.TheVariants.{Set, Append}
use Rattle.command_line.specs.Grammar.{Text, IsGiven}
use Rattle.command_line.specs.Commands.{Means}
use Rattle.command_line.specs.declared.command.Command.{Command}
use Rattle.command_line.specs.declared.options.OptionName.{OptionName}
use Rattle.command_line.specs.declared.options.OptionName.TheVariants.{Offset, Skew, Bits, Version}

-- ---- the commands

-- the name of an option, without its dashes
abbrev pub option_id : OptionName → Text
option_id Offset = codes "offset"
option_id Skew = codes "skew"
option_id Bits = codes "bits"
option_id Version = codes "version"

abbrev pub operand_id : Text
operand_id = codes "operand"

-- an option that takes one value, at most once
abbrev pub option_rule : OptionName → Rule
option_rule name = record (new_rule (option_id name)) { long = Some (option_id name); action = Some Set }

-- one operand, or one or more
abbrev pub operand_rule : Bool → Rule
operand_rule false = record (new_rule operand_id) { required = true; action = Some Set }
operand_rule true = record (new_rule operand_id) { required = true; action = Some Append }

-- a command with no help and no version of clap's own
abbrev pub bare : Text → App
bare name = let a = new_app name in record a { top = record (a.top) { disable_help_flag = true; disable_version_flag = true } }

-- a command with one operand
abbrev pub single : Text → App
single name = with_rule (bare name) (operand_rule false)

-- a command with one operand or more
abbrev pub several : Text → App
several name = with_rule (bare name) (operand_rule true)

abbrev pub make : App
make = with_rule (with_rule (with_rule (with_rule (single (codes "make")) (option_rule Offset)) (option_rule Skew)) (option_rule Bits)) (option_rule Version)

abbrev pub recover : App
recover = several (codes "recover")

abbrev pub check : App
check = bare (codes "check")

abbrev pub damage : App
damage = several (codes "damage")

abbrev pub slip : App
slip = single (codes "slip")

abbrev pub read : App
read = single (codes "read")

abbrev pub relay : App
relay = bare (codes "relay")

abbrev pub sample : App
sample = single (codes "sample")

abbrev pub program : App
program = let a = bare (codes "vabgrot") in record a { top = record (a.top) { disable_help_subcommand = true; no_binary_name = true; subcommand_required = true } }

-- the program with its first four commands
abbrev pub front : App
front = with_subcommand (with_subcommand (with_subcommand (with_subcommand program make.top) recover.top) check.top) damage.top

-- the program with all its commands
abbrev pub vabgrot : App
vabgrot = with_subcommand (with_subcommand (with_subcommand (with_subcommand front slip.top) read.top) relay.top) sample.top

-- ---- what is found

-- the values of an id, and whether words gave them
abbrev pub row_value : Row → List Text × Bool
row_value r = (r.values, explicit_source r.source)

abbrev pub reported : Text → List Row → Option (List Text × Bool)
reported id rows = option_map row_value (find (λ r. bytes_eq r.id id) rows)

abbrev pub one_value : Option Text → Option (List Text × Bool)
one_value None = None
one_value (Some value) = Some (value ∷ [], true)

abbrev pub all_values : List Text → Option (List Text × Bool)
all_values [] = None
all_values (value ∷ values) = Some (value ∷ values, true)

-- these options, each at most once, and these operands are found
pub record AreFound (rows : List Row) (options : List (OptionName × Text)) (operands : List Text) : Type 0 where
  pub value : OptionName → Option Text
  pub given : (name : OptionName) → IsGiven name options (value name)
  pub options_are : (name : OptionName) → reported (option_id name) rows ≡ one_value (value name)
  pub operands_are : reported operand_id rows ≡ all_values operands

-- the answer is the command that these rows of a name ask for
abbrev pub Judges : Text → List Row → Option Command → Type 0
Judges name rows answer =
    (options : List (OptionName × Text)) (operands : List Text) → AreFound rows options operands → (name ≡ codes "make") ⊎ (options ≡ [])
    → MatchOption answer ((c : Command) → Means c name options operands → ⊥) (λ c. Means c name options operands)

-- the words are taken, and this is what is found of the command that they begin with; or they are refused
abbrev pub IsParsed : List Text → Option (Option (Text × List Row)) → Type 0
IsParsed words (Some found) = (fault_of vabgrot words ≡ []) × (found ≡ subcommand_of vabgrot words)
IsParsed words None = fault_of vabgrot words ≡ [] → ⊥

-- these are the operands of all options and operands that are found
abbrev pub HasOperands : List Row → List Text → Type 0
HasOperands rows texts = (options : List (OptionName × Text)) (operands : List Text) → AreFound rows options operands → texts ≡ operands
