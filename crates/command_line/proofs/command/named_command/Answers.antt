use Rattle.std.proofs.Common.{◌∙◌, ap, sym, Option, Bor, List, [], unwrap_or, option_map}
use Rattle.command_line.specs.Grammar.{Text, texts}
use Rattle.command_line.proofs.command.named_command.Goals as goal

abbrev listed : Option (Bor (List (Bor Text))) → List Text
listed o = unwrap_or (option_map (λ found. texts found.now) o) []

pub returns-in-Some : goal.returns-in-Some
returns-in-Some c = c.asked_command.ensures (λ options operands f. ap listed (sym c.in-Some.is) ∙ c.operand_texts.ensures options operands f)

pub returns-in-None : goal.returns-in-None
returns-in-None c = c.asked_command-in-None.ensures (λ options operands f. ap listed (sym c.in-None.is) ∙ c.operand_texts.ensures options operands f)
