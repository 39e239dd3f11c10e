use Rattle.std.proofs.Common.{◌≡◌, Bool, length, ap, sym, ◌∙◌, arith, eqb-true}
use Rattle.std.specs.List.{prefix_len}
use Rattle.tmds_word.specs.Column.{Column, column_of}
use Rattle.tmds_word.specs.Lent.{columns_in}
use Rattle.period_grammar.specs.GoesOn.{goes_kept}
use Rattle.period_grammar.proofs.Pixels.{step_no, step_end}
use Rattle.period_grammar.proofs.Alike.{alike_goes}
use Rattle.period_grammar.proofs.control.ControlState.count_going_on.Goals as goal

pub returns-then-is_empty-clause-count : goal.returns-then-is_empty-clause-count
returns-then-is_empty-clause-count c =
    let none : length (columns_in c.args.columns) ≡ 0 = eqb-true _ 0 (sym c.is_empty.ensures ∙ c.if-is_empty.true) in
    step_end (goes_kept c.args.self.now) (columns_in c.args.columns) 0 _ (omega (arith, none)) (omega arith)

pub returns-then-not-goes_on-clause-count : goal.returns-then-not-goes_on-clause-count
returns-then-not-goes_on-clause-count c = step_no (goes_kept c.args.self.now) (columns_in c.args.columns) 0 _ _ c.get-first.ensures (sym c.goes_on.ensures ∙ c.if-not-goes_on.true) (omega arith)

pub returns-clause-count : goal.returns-clause-count
returns-clause-count c =
    c.count_alike.ensures.count
    ∙ ap (λ (p : Column → Bool). prefix_len p (columns_in c.args.columns)) (λ i d. alike_goes c.args.self.now (column_of c.get-first.result) (sym c.goes_on.ensures ∙ c.if-not-goes_on.false) d i)
