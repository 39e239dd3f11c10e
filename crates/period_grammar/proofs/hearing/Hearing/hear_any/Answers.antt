use Rattle.std.proofs.Common.{arith, refl, sym, subst, ◌∙◌}
use Rattle.tmds_word.specs.Column.{column_of}
use Rattle.period_grammar.specs.Seen.{Seen}
use Rattle.period_grammar.specs.Stands.{HearingRepresents, going_on}
use Rattle.period_grammar.specs.After.{last}
use Rattle.period_grammar.specs.Cut.{stretches}
use Rattle.period_grammar.proofs.Hearings.{start_of, starts_at, reported_control, reported_other, stands_control, stands_other}
use Rattle.period_grammar.proofs.hearing.Hearing.hear_any.Goals as goal

pub returns-then-is_control_column-clause-heard : goal.returns-then-is_control_column-clause-heard
returns-then-is_control_column-clause-heard c cs was =
    let w = subst (λ (s : Seen). HearingRepresents s cs) (sym c.self.view_is) was in
    let x = last (stretches cs) in
    stands_control _ cs (column_of c.args.column.now) _ w.columns (sym c.is_control_column.ensures ∙ c.if-is_control_column.true) refl refl
    (c.hear.ensures.heard (going_on x) (column_of c.args.column.now) c.column_value-value.ensures (c.close-kept.ensures.kept x w.stretch))

pub returns-then-is_control_column-clause-reported : goal.returns-then-is_control_column-clause-reported
returns-then-is_control_column-clause-reported c cs was =
    let w = subst (λ (s : Seen). HearingRepresents s cs) (sym c.self.view_is) was in
    let x = last (stretches cs) in
    reported_control cs (column_of c.args.column.now) c.self.inside.columns c.column_value-value.result _ _ w.columns (sym c.is_control_column.ensures ∙ c.if-is_control_column.true) c.column_value-value.ensures
    (c.close-kept.ensures.reported x (start_of cs) w.stretch (starts_at cs _ w.columns)) (c.tell_words.ensures.reported _)

pub returns-clause-heard : goal.returns-clause-heard
returns-clause-heard c cs was =
    let w = subst (λ (s : Seen). HearingRepresents s cs) (sym c.self.view_is) was in
    stands_other _ cs (column_of c.args.column.now) _ w.columns (sym c.is_control_column.ensures ∙ c.if-is_control_column.false) refl
    (c.go_on-self-inside.ensures.stands (last (stretches cs)) w.stretch)

pub returns-clause-reported : goal.returns-clause-reported
returns-clause-reported c cs was = grind (arith, reported_other, start_of, starts_at)
