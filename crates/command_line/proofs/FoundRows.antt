-- The rows that `clap` keeps of options and operands.
use Rattle.std.proofs.Common.{arith, ◌≡◌, ◌∙◌, ◌⊎◌, sym, ap, refl, subst, Bool, true, false, List, [], ◌∷◌, ◌++◌, append-nil, Option, Some, None, bytes_eq, is_some}
use Rattle.std.specs.Prelude.{if◌then◌else◌, option_map, unwrap_or, option_and_then, slice_get}
use Rattle.std.specs.Option.{option_map_or}
use Rattle.std.proofs.lemmas.Slice.Eq.{bytes_eq-Decides}
use Rattle.clap.specs.Walk.{Row, Rule, without, with_values, used, has_row, first_of, all_of}
use Rattle.clap.specs.Takes.{is_given}
use Rattle.clap.specs.Faults.{use_fault}
use Rattle.clap.specs.Simple.{filled, with_index}
use Rattle.clap.specs.declared.builder.value_parser.Reading.{Reading}
use Rattle.clap.specs.declared.builder.value_parser.Reading.TheVariants as reading
use Rattle.clap.specs.declared.parser.matches.ValueSource.TheVariants.{CommandLine}
use Rattle.command_line.specs.Grammar.{Text, is_same, values_of, listed, IsGiven}
use Rattle.command_line.specs.Forms.{option_id, operand_id, option_rule, operand_rule, reported, one_value, AreFound}
use Rattle.command_line.specs.declared.options.OptionName.{OptionName}
use Rattle.command_line.proofs.GivenOptions.{values-append}

-- ---- the ids

pub same_id : (name : OptionName) → bytes_eq (option_id name) (option_id name) ≡ true
same_id name = grind arith

pub ids_apart : (a b : OptionName) → bytes_eq (option_id a) (option_id b) ≡ is_same b a
ids_apart a b = grind arith

pub same_name : (a b : OptionName) → is_same a b ≡ true → a ≡ b
same_name a b h = grind arith

pub is_itself : (name : OptionName) → is_same name name ≡ true
is_itself name = grind arith

pub option_operand : (name : OptionName) → bytes_eq (option_id name) operand_id ≡ false
option_operand name = grind arith

pub operand_option : (name : OptionName) → bytes_eq operand_id (option_id name) ≡ false
operand_option name = grind arith

-- ---- rows

abbrev before : Option (List Text × Bool) → List Text
before None = []
before (Some p) = p.0

-- the values that an id gets join those that it has
reported_same : (id : Text) (how : Reading) (values : List Text) (rows : List Row) → bytes_eq id id ≡ true
    → reported id (with_values id how CommandLine values rows) ≡ Some (before (reported id rows) ++ values, true)
reported_same id how values [] own = rw own refl
reported_same id how values (r ∷ rs) own = grind (arith, reported_same id how values rs own)

-- and another id keeps what it has
reported_other : (id other : Text) (how : Reading) (values : List Text) (rows : List Row) → bytes_eq id other ≡ false
    → reported other (with_values id how CommandLine values rows) ≡ reported other rows
reported_other id other how values [] apart = rw apart refl
reported_other id other how values (r ∷ rs) apart = grind (arith, bytes_eq-Decides, reported_other id other how values rs apart)

pub row_reported : (id : Text) (rows : List Row) → has_row id rows ≡ is_some (reported id rows)
row_reported id [] = refl
row_reported id (r ∷ rs) = grind (arith, row_reported id rs)

without_none : (id : Text) (rows : List Row) → has_row id rows ≡ false → without id rows ≡ rows
without_none id [] none = refl
without_none id (r ∷ rs) none = grind (arith, without_none id rs)

pub given_reported : (id : Text) (rows : List Row) → is_given id rows ≡ option_map_or (λ p. p.1) (reported id rows) false
given_reported id rows = grind arith

abbrev first_in : Option (List Text × Bool) → Option Text
first_in = option_and_then (λ p. slice_get p.0 0)

pub first_reported : (id : Text) (rows : List Row) → first_of id rows ≡ first_in (reported id rows)
first_reported id rows = grind arith

pub all_reported : (id : Text) (rows : List Row) → all_of id rows ≡ option_map (λ p. p.0) (reported id rows)
all_reported id rows = grind arith

-- the value of an option that is found
pub option_value : (rows : List Row) (options : List (OptionName × Text)) (operands : List Text) (f : AreFound rows options operands) (name : OptionName) → first_of (option_id name) rows ≡ f.value name
option_value rows options operands f name = grind (arith, first_reported)

-- and the operands
pub operand_values : (rows : List Row) (options : List (OptionName × Text)) (operands : List Text) → AreFound rows options operands → unwrap_or (all_of operand_id rows) [] ≡ operands
operand_values rows options operands f = grind (arith, all_reported)

-- ---- one use

abbrev pub option_built : OptionName → Rule
option_built name = filled (option_rule name)

abbrev pub operand_built : Bool → Rule
operand_built false = with_index 1 (filled (operand_rule false))
operand_built true = with_index 1 (filled (operand_rule true))

once_option : (name : OptionName) (value : Text) (rows : List Row) → use_fault false (option_built name) (value ∷ []) rows ≡ [] → has_row (option_id name) rows ≡ false
once_option name value rows h = grind arith

none_reported : (id : Text) (rows : List Row) → has_row id rows ≡ false → reported id rows ≡ None
none_reported id rows none = grind (arith, row_reported)

no_value : (o : Option Text) → one_value o ≡ None → o ≡ None
no_value o h = grind arith

abbrev value_after : (OptionName → Option Text) → OptionName → Text → OptionName → Option Text
value_after old name value other = if is_same other name then Some value else old other

-- one more option is found
pub found_option : (rows : List Row) (options : List (OptionName × Text)) (operands : List Text) (name : OptionName) (value : Text) → AreFound rows options operands
    → use_fault false (option_built name) (value ∷ []) rows ≡ [] → AreFound (used (option_built name) (value ∷ []) rows) (options ++ (name, value) ∷ []) operands
found_option rows options operands name value f fits =
    let none = once_option name value rows fits in
    let clear : without (option_id name) rows ≡ rows = without_none (option_id name) rows none in
    let missing : f.value name ≡ None = no_value (f.value name) (sym (f.options_are name) ∙ none_reported (option_id name) rows none) in
    subst (λ (rs : List Row). AreFound (with_values (option_id name) reading.AsWritten CommandLine (value ∷ []) rs) (options ++ (name, value) ∷ []) operands) (sym clear)
    (record {
      value = value_after f.value name value;
      given = λ other. given_by other (is_same other name) refl missing;
      options_are = λ other. reported_by other (is_same other name) refl none;
      operands_are = reported_other (option_id name) operand_id reading.AsWritten (value ∷ []) rows (option_operand name) ∙ f.operands_are;
    })
  where
    given_by : (other : OptionName) (b : Bool) → is_same other name ≡ b → f.value name ≡ None → IsGiven other (options ++ (name, value) ∷ []) (if b then Some value else f.value other)
    given_by other true e missing =
        let same : other ≡ name = same_name other name e in
        let old : values_of other options ≡ [] = f.given other ∙ ap (λ (o : OptionName). listed (f.value o)) same ∙ ap listed missing in
        values-append other options ((name, value) ∷ []) ∙ ap (λ (vs : List Text). vs ++ values_of other ((name, value) ∷ [])) old ∙ rw e refl
    given_by other false e missing =
        values-append other options ((name, value) ∷ []) ∙ ap (λ (vs : List Text). values_of other options ++ vs) (rw e refl) ∙ append-nil (values_of other options) ∙ f.given other

    reported_by : (other : OptionName) (b : Bool) → is_same other name ≡ b → has_row (option_id name) rows ≡ false
        → reported (option_id other) (with_values (option_id name) reading.AsWritten CommandLine (value ∷ []) rows) ≡ one_value (if b then Some value else f.value other)
    reported_by other true e none = grind (arith, same_name, reported_same, same_id, none_reported)
    reported_by other false e none =
        reported_other (option_id name) (option_id other) reading.AsWritten (value ∷ []) rows (ids_apart name other ∙ e) ∙ f.options_are other

-- one more operand is found
pub found_operand : (many : Bool) (rows : List Row) (options : List (OptionName × Text)) (operands : List Text) (value : Text) → AreFound rows options operands
    → use_fault false (operand_built many) (value ∷ []) rows ≡ [] → AreFound (used (operand_built many) (value ∷ []) rows) options (operands ++ value ∷ [])
found_operand many rows options operands value h k = grind (arith, reported_other, operand_option, reported_same, without_none, none_reported)

-- an option that is not there yet fits
pub option_fits : (rows : List Row) (options : List (OptionName × Text)) (operands : List Text) (name : OptionName) (value : Text) → AreFound rows options operands
    → values_of name options ≡ [] → use_fault false (option_built name) (value ∷ []) rows ≡ []
option_fits rows options operands name value f none = grind (arith, row_reported)

-- and an operand where several may stand or none is there
pub operand_fits : (many : Bool) (rows : List Row) (options : List (OptionName × Text)) (operands : List Text) (value : Text) → AreFound rows options operands
    → (many ≡ true) ⊎ (operands ≡ []) → use_fault false (operand_built many) (value ∷ []) rows ≡ []
operand_fits many rows options operands value h k = grind (arith, row_reported)

-- nothing is found in no rows
pub nothing_found : AreFound [] [] []
nothing_found = record { value = λ name. None; given = λ name. refl; options_are = λ name. refl; operands_are = refl }
