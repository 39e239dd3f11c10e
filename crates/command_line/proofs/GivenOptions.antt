-- The value of an option among options.
use Rattle.std.proofs.Common.{arith, ◌≡◌, List, ◌++◌, Option}
use Rattle.std.proofs.lemmas.List.Elements.{filter_map-append}
use Rattle.command_line.specs.Grammar.{Text, value_if, values_of, listed}
use Rattle.command_line.specs.declared.options.OptionName.{OptionName}

-- the values of options one after another
pub values-append : (name : OptionName) (xs ys : List (OptionName × Text)) → values_of name (xs ++ ys) ≡ values_of name xs ++ values_of name ys
values-append name xs ys = filter_map-append (value_if name) xs ys

-- options give a name one value at most
pub given_once : (a b : Option Text) → listed a ≡ listed b → a ≡ b
given_once a b h = grind arith
