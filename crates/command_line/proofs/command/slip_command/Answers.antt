use Rattle.std.proofs.Common.{◌≡◌, ◌∙◌, sym, arith, refl, Bor, [], get_or, ◌∷◌}
use Rattle.command_line.specs.Grammar.{Text, texts}
use Rattle.command_line.proofs.SlipTexts.{slip_reported}
use Rattle.command_line.proofs.Meanings.{one_text, no_slip}
use Rattle.command_line.proofs.command.slip_command.Goals as goal

abbrev nothing : Bor Text
nothing = record { ref_ptr = (0, 0); now = [] }

pub returns-in_err-slip : goal.returns-in_err-slip
returns-in_err-slip c = grind (arith, one_text, no_slip)

pub returns : goal.returns
returns c =
    let one : texts c.args.operands.now ≡ (get_or c.args.operands.now 0 nothing).now ∷ [] = one_text c.args.operands.now nothing (omega arith) (omega arith) in
    (refl, ((get_or c.args.operands.now 0 nothing).now, one, slip_reported (get_or c.args.operands.now 0 nothing).now c.in_ok-slip.slip (sym c.read_slip.ensures ∙ c.in_ok-slip.was)), refl)
