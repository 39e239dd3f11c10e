use Rattle.std.proofs.Common.{◌≡◌, ap, subst, ◌∙◌, List, ℕ, map, string_bytes, String, Global}
use Rattle.std.specs.Prelude.{Option, IfOk, MatchOption}
use Rattle.command_line.specs.Commands.{IsCommand as IsLine}
use Rattle.command_line.specs.declared.command.Command.{Command}
use Rattle.hdmi_cli.proofs.words.Words.command.Goals as goal

pub returns : goal.returns
returns c =
    let list : map string_bytes c.as_slice.result.now ≡ c.args.self.now = ap (λ (ws : List (String Global)). map string_bytes ws) c.as_slice.ensures.value ∙ c.self.view_is in
    subst (λ (words : List (List ℕ)). IfOk c.read_command.result (λ (answer : Option Command). MatchOption answer ((d : Command) → IsLine words d → ⊥) (λ d. IsLine words d))) list c.read_command.ensures
