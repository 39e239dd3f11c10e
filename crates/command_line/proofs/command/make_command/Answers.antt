use Rattle.std.proofs.Common.{◌≡◌, ◌∙◌, ap, refl, codes, [], ◌∷◌, arith, Bor, get_or}
use Rattle.std.proofs.lemmas.Grind.{common_steps}
use Rattle.command_line.specs.Grammar.{Text, texts}
use Rattle.command_line.proofs.Meanings.{no_tap, one_text}
use Rattle.command_line.proofs.command.make_command.Goals as goal

abbrev nothing : Bor Text
nothing = record { ref_ptr = (0, 0); now = [] }

pub returns-in_err-tap : goal.returns-in_err-tap
returns-in_err-tap c = λ options found f. rw c.from_residual.ensures (no_tap options (texts c.args.operands.now) (c.in_err-tap.ensures options found f))

pub returns-in-link : goal.returns-in-link
returns-in-link c = λ options found f.
    let one : texts c.args.operands.now ≡ (get_or c.args.operands.now 0 nothing).now ∷ [] = one_text c.args.operands.now nothing (omega arith) (omega arith) in
    let kind : (get_or c.args.operands.now 0 nothing).now ≡ codes "link" = grind (arith, common_steps) in
    (refl, one ∙ ap (λ (t : Text). t ∷ []) kind, c.in_ok-tap.ensures options found f)

pub returns-in-content : goal.returns-in-content
returns-in-content c = λ options found f.
    let one : texts c.args.operands.now ≡ (get_or c.args.operands.now 0 nothing).now ∷ [] = one_text c.args.operands.now nothing (omega arith) (omega arith) in
    let kind : (get_or c.args.operands.now 0 nothing).now ≡ codes "content" = grind (arith, common_steps) in
    (refl, one ∙ ap (λ (t : Text). t ∷ []) kind, c.in_ok-tap.ensures options found f)

pub returns-in-dvi : goal.returns-in-dvi
returns-in-dvi c = λ options found f.
    let one : texts c.args.operands.now ≡ (get_or c.args.operands.now 0 nothing).now ∷ [] = one_text c.args.operands.now nothing (omega arith) (omega arith) in
    let kind : (get_or c.args.operands.now 0 nothing).now ≡ codes "dvi" = grind (arith, common_steps) in
    (refl, one ∙ ap (λ (t : Text). t ∷ []) kind, c.in_ok-tap.ensures options found f)
