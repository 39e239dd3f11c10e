use Rattle.std.proofs.Common.{sym, ◌∙◌}
use Rattle.tmds_word.specs.Lent.{columns_in}
use Rattle.tmds_word.specs.Words.{columns_of}
use Rattle.tmds_word.proofs.Lent.{columns_drop}
use Rattle.tmds_word.proofs.columns.Columns.from.Goals as goal

pub returns : goal.returns
unfolding columns_in
returns c =
    let s = c.args.self.now in
    (λ i. columns_of (c.past.ensures i) (c.past-2.ensures i) (c.past-3.ensures i)) ∙ sym (columns_drop c.args.at s.blue.now s.green.now s.red.now)
