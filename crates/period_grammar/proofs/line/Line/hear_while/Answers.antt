use Rattle.std.proofs.Common.{◌++◌, take, ap}
use Rattle.tmds_word.specs.Lent.{columns_in}
use Rattle.period_grammar.proofs.Sixteens.{more_heard, pixels_after}
use Rattle.period_grammar.proofs.line.Line.hear_while.Goals as goal

pub returns-clause-pixels : goal.returns-clause-pixels
returns-clause-pixels c =
    pixels_after (columns_in c.args.columns) _ c.hear_sixteens-front.result c.hear_each.result c.hear_sixteens-front.ensures.within c.hear_sixteens-front.ensures.pixels c.from.ensures c.hear_each.ensures.pixels

pub returns-clause-heard : goal.returns-clause-heard
returns-clause-heard c = λ pixels was.
    let cols = columns_in c.args.columns in
    let n = c.hear_sixteens-front.result in
    let m = c.hear_each.result in
    more_heard c.hear_each.new.self pixels cols _ n m (ap (take m) c.from.ensures) (c.hear_each.ensures.heard (pixels ++ take n cols) (c.hear_sixteens-front.ensures.heard pixels was))
