use Rattle.std.proofs.Common.{◌≡◌, ℕ, ◌++◌, ◌∷◌, [], List, ◌∙◌, ap, sym, subst, refl, arith}
use Rattle.std.proofs.lemmas.Grind.{common_steps}
use Rattle.tmds_word.specs.Column.{column_of}
use Rattle.tmds_code.specs.Coding.{decoded_byte}
use Rattle.period_grammar.specs.Lines.{IsLineAfter}
use Rattle.period_grammar.specs.LineSeen.{LineSeen}
use Rattle.period_grammar.specs.Judged.{IsLaneAfter}
use Rattle.period_grammar.proofs.Lined.{line_past, line_push}
use Rattle.period_grammar.proofs.line.Line.hear.Goals as goal

pub returns-then-self-from-clause-heard : goal.returns-then-self-from-clause-heard
returns-then-self-from-clause-heard c pixels was =
    line_past _ _ pixels (column_of c.args.column.now) (subst (λ (l : LineSeen). IsLineAfter l pixels) (sym c.self.view_is) was)
    (omega (arith, c.if-self-from.true, c.from.ensures)) refl refl refl refl refl

three : (a b c x y z : ℕ) (xs ys : List ℕ) → ys ≡ xs ++ (a ∷ (b ∷ (c ∷ []))) → a ≡ x → b ≡ y → c ≡ z → ys ≡ xs ++ (x ∷ (y ∷ (z ∷ [])))
three a b c x y z xs ys e p q r = cc

pub returns-clause-heard : goal.returns-clause-heard
returns-clause-heard c pixels was =
    let b = c.blue.ensures in
    let g = c.green.ensures in
    let r = c.red.ensures in
    line_push _ _ pixels (column_of c.args.column.now) (subst (λ (l : LineSeen). IsLineAfter l pixels) (sym c.self.view_is) was)
    (omega (arith, c.if-self-from.false, c.from.ensures)) refl
    (three _ _ _ _ _ _ _ _ c.push_three.ensures (c.hear-red.ensures.byte ∙ ap decoded_byte r) (c.hear-green.ensures.byte ∙ ap decoded_byte g) (c.hear-blue.ensures.byte ∙ ap decoded_byte b))
    (λ ws h. subst (λ (w : ℕ). IsLaneAfter c.hear-blue.new.self (ws ++ w ∷ [])) b (c.hear-blue.ensures.heard ws h))
    (λ ws h. subst (λ (w : ℕ). IsLaneAfter c.hear-green.new.self (ws ++ w ∷ [])) g (c.hear-green.ensures.heard ws h))
    (λ ws h. subst (λ (w : ℕ). IsLaneAfter c.hear-red.new.self (ws ++ w ∷ [])) r (c.hear-red.ensures.heard ws h))

pub invariant_of-self-2 : goal.invariant_of-self-2
invariant_of-self-2 c = grind (arith, common_steps)
