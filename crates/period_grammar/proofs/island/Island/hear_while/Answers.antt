use Rattle.std.proofs.Common.{◌≤◌, ◌+◌, ◌-◌, ◌++◌, List, length, take, ap, sym, subst, ◌∙◌, arith, length-drop}
use Rattle.tmds_word.specs.Column.{Column}
use Rattle.tmds_word.specs.Lent.{columns_in}
use Rattle.period_grammar.specs.IslandAfter.{IsIslandAfter}
use Rattle.period_grammar.specs.declared.island.Island.{Island}
use Rattle.period_grammar.proofs.Pixels.{next_take}
use Rattle.period_grammar.proofs.InPacket.{going_count, going_heard, island_yes, island_control, island_no, island_end}
use Rattle.period_grammar.proofs.island.Island.hear_while.Goals as goal

pub returns-then-at-len-clause-count : goal.returns-then-at-len-clause-count
returns-then-at-len-clause-count c rest was =
    let cols = columns_in c.args.columns in
    let at = c.loop-at.at in
    let n = c.hear_within-at.result in
    let rest_is = c.from.ensures in
    island_end rest cols (at + n) _ (omega (arith, c.if-at-len.true)) (going_count rest cols _ at n _ rest_is c.hear_within-at.ensures.within (c.hear_within-at.ensures.going (rest ++ take at cols) (c.loop-at.invariant.heard rest was)) (c.loop-at.invariant.count rest was))

pub returns-then-at-len-clause-heard : goal.returns-then-at-len-clause-heard
returns-then-at-len-clause-heard c rest was =
    let cols = columns_in c.args.columns in
    let at = c.loop-at.at in
    let n = c.hear_within-at.result in
    let rest_is = c.from.ensures in
    (going_heard c.hear_within-at.new.self rest cols _ at n rest_is (c.hear_within-at.ensures.heard (rest ++ take at cols) (c.loop-at.invariant.heard rest was)))

pub returns-then-is_control_column-clause-count : goal.returns-then-is_control_column-clause-count
returns-then-is_control_column-clause-count c rest was =
    let cols = columns_in c.args.columns in
    let at = c.loop-at.at in
    let n = c.hear_within-at.result in
    let rest_is = c.from.ensures in
    island_control rest cols (at + n) _ _ c.get-column.ensures (sym c.is_control_column.ensures ∙ c.if-is_control_column.true) (going_count rest cols _ at n _ rest_is c.hear_within-at.ensures.within (c.hear_within-at.ensures.going (rest ++ take at cols) (c.loop-at.invariant.heard rest was)) (c.loop-at.invariant.count rest was))

pub returns-then-is_control_column-clause-heard : goal.returns-then-is_control_column-clause-heard
returns-then-is_control_column-clause-heard c rest was =
    let cols = columns_in c.args.columns in
    let at = c.loop-at.at in
    let n = c.hear_within-at.result in
    let rest_is = c.from.ensures in
    (going_heard c.hear_within-at.new.self rest cols _ at n rest_is (c.hear_within-at.ensures.heard (rest ++ take at cols) (c.loop-at.invariant.heard rest was)))

pub returns-then-not-hear_on-clause-count : goal.returns-then-not-hear_on-clause-count
returns-then-not-hear_on-clause-count c rest was =
    let cols = columns_in c.args.columns in
    let at = c.loop-at.at in
    let n = c.hear_within-at.result in
    let rest_is = c.from.ensures in
    island_no rest cols (at + n) _ _ c.get-column.ensures (sym c.is_control_column.ensures ∙ c.if-is_control_column.false)
    (sym c.if-not-hear_on.true ∙ c.hear_on.ensures.count (rest ++ take (at + n) cols) (going_heard c.hear_within-at.new.self rest cols _ at n rest_is (c.hear_within-at.ensures.heard (rest ++ take at cols) (c.loop-at.invariant.heard rest was)))) (going_count rest cols _ at n _ rest_is c.hear_within-at.ensures.within (c.hear_within-at.ensures.going (rest ++ take at cols) (c.loop-at.invariant.heard rest was)) (c.loop-at.invariant.count rest was))

pub returns-then-not-hear_on-clause-heard : goal.returns-then-not-hear_on-clause-heard
returns-then-not-hear_on-clause-heard c rest was =
    let cols = columns_in c.args.columns in
    let at = c.loop-at.at in
    let n = c.hear_within-at.result in
    let rest_is = c.from.ensures in
    subst (λ (isle : Island). IsIslandAfter isle (rest ++ take (at + n) cols)) (sym c.if-not-hear_on.ensures.same) (going_heard c.hear_within-at.new.self rest cols _ at n rest_is (c.hear_within-at.ensures.heard (rest ++ take at cols) (c.loop-at.invariant.heard rest was)))

pub loop-at-preserved : goal.loop-at-preserved
loop-at-preserved c =
    let cols = columns_in c.args.columns in
    let at = c.loop-at.at in
    let n = c.hear_within-at.result in
    let rest_is = c.from.ensures in
    let within : n ≤ length cols - at = omega (arith, c.hear_within-at.ensures.within, ap (λ (cs : List Column). length cs) rest_is, length-drop at cols) in
    record {
      in_range = omega (arith, within, c.loop-at.invariant.in_range, c.if-at-len.false);
      blocked = c.hear_on.ensures.blocked;
      packets = c.hear_on.ensures.packets ∙ c.hear_within-at.ensures.packets ∙ c.loop-at.invariant.packets;
      placed = omega (arith, c.hear_on.ensures.placed, c.hear_within-at.ensures.placed, c.loop-at.invariant.placed);
      count = λ rest was. island_yes rest cols (at + n) _ _ c.get-column.ensures (sym c.is_control_column.ensures ∙ c.if-is_control_column.false)
          (sym c.if-not-hear_on.false ∙ c.hear_on.ensures.count (rest ++ take (at + n) cols) (going_heard c.hear_within-at.new.self rest cols _ at n rest_is (c.hear_within-at.ensures.heard (rest ++ take at cols) (c.loop-at.invariant.heard rest was)))) (going_count rest cols _ at n _ rest_is c.hear_within-at.ensures.within (c.hear_within-at.ensures.going (rest ++ take at cols) (c.loop-at.invariant.heard rest was)) (c.loop-at.invariant.count rest was));
      heard = λ rest was. subst (λ (cs : List Column). IsIslandAfter c.hear_on.new.self cs) (next_take rest cols (at + n) _ c.get-column.ensures) (c.if-not-hear_on.ensures.heard (rest ++ take (at + n) cols) (going_heard c.hear_within-at.new.self rest cols _ at n rest_is (c.hear_within-at.ensures.heard (rest ++ take at cols) (c.loop-at.invariant.heard rest was))));
    }
