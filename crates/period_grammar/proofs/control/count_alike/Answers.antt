use Rattle.std.proofs.Common.{◌≤◌, length, take, drop, ap, ◌∙◌, arith, length-drop}
use Rattle.tmds_word.specs.Column.{column_of}
use Rattle.tmds_word.specs.Lent.{columns_in}
use Rattle.period_grammar.specs.GoesOn.{is_alike}
use Rattle.period_grammar.proofs.Eights.{eight_more}
use Rattle.period_grammar.proofs.control.count_alike.Goals as goal

pub loop-at-preserved : goal.loop-at-preserved
loop-at-preserved c =
    let cols = columns_in c.args.columns in
    let at = c.loop-at.at in
    let within = c.alike_of_eight-count.ensures.within in
    let long = length-drop at cols in
    let room : 8 ≤ length (drop at cols) = omega (arith, long, c.loop-at-test.true, c.len.ensures) in
    record {
      in_range = omega (arith, within, room, long, c.loop-at.invariant.in_range);
      alike = eight_more (is_alike (column_of c.args.other.now)) cols _ _ at c.alike_of_eight-count.result (c.first.ensures ∙ ap (take 8) c.from.ensures) room c.alike_of_eight-count.ensures.count (omega (arith, within, c.if-count-lt-EIGHT.false)) c.loop-at.invariant.alike;
    }
