use Rattle.std.proofs.Common.{◌++◌, List, length, take, drop, ap, ◌∙◌, arith, length-drop}
use Rattle.std.proofs.lemmas.List.{take-take, length-take-le}
use Rattle.tmds_word.specs.Column.{Column}
use Rattle.tmds_word.specs.Lent.{columns_in}
use Rattle.period_grammar.proofs.Sixteens.{more_heard, pixels_more}
use Rattle.period_grammar.proofs.line.Line.hear_sixteens.Goals as goal

pub hear_sixteen-count-requires-clause-sixteen : goal.hear_sixteen-count-requires-clause-sixteen
hear_sixteen-count-requires-clause-sixteen c =
    let cols = columns_in c.args.columns in
    let at = c.loop-at.at in
    ap (λ (cs : List Column). length cs) (c.first.ensures ∙ ap (take 16) c.from-in-loop-at.ensures)
    ∙ length-take-le 16 (drop at cols) (omega (arith, length-drop at cols, c.loop-at-test.true, c.min-fits.ensures, c.len.ensures))

pub returns-then-count-lt-SIXTEEN-clause-pixels : goal.returns-then-count-lt-SIXTEEN-clause-pixels
returns-then-count-lt-SIXTEEN-clause-pixels c =
    let cols = columns_in c.args.columns in
    let at = c.loop-at.at in
    let n = c.hear_sixteen-count.result in
    let within = c.hear_sixteen-count.ensures.within in
    let part = c.first.ensures ∙ ap (take 16) c.from-in-loop-at.ensures in
    pixels_more cols _ at n 16 part within c.hear_sixteen-count.ensures.pixels c.loop-at.invariant.pixels

pub returns-then-count-lt-SIXTEEN-clause-heard : goal.returns-then-count-lt-SIXTEEN-clause-heard
returns-then-count-lt-SIXTEEN-clause-heard c = λ pixels was.
    let cols = columns_in c.args.columns in
    let at = c.loop-at.at in
    let n = c.hear_sixteen-count.result in
    let within = c.hear_sixteen-count.ensures.within in
    let part = c.first.ensures ∙ ap (take 16) c.from-in-loop-at.ensures in
    more_heard c.hear_sixteen-count.new.self pixels cols _ at n (ap (take n) part ∙ take-take n 16 (drop at cols) within) (c.hear_sixteen-count.ensures.heard (pixels ++ take at cols) (c.loop-at.invariant.heard pixels was))

pub loop-at-preserved : goal.loop-at-preserved
loop-at-preserved c =
    let cols = columns_in c.args.columns in
    let at = c.loop-at.at in
    let n = c.hear_sixteen-count.result in
    let within = c.hear_sixteen-count.ensures.within in
    let part = c.first.ensures ∙ ap (take 16) c.from-in-loop-at.ensures in
    record {
      in_range = omega (arith, within, c.loop-at-test.true);
      counted = omega (arith, c.hear_sixteen-count.ensures.count, c.loop-at.invariant.counted);
      pixels = pixels_more cols _ at n 16 part within c.hear_sixteen-count.ensures.pixels c.loop-at.invariant.pixels;
      heard = λ pixels was. more_heard c.hear_sixteen-count.new.self pixels cols _ at n (ap (take n) part ∙ take-take n 16 (drop at cols) within) (c.hear_sixteen-count.ensures.heard (pixels ++ take at cols) (c.loop-at.invariant.heard pixels was));
    }
