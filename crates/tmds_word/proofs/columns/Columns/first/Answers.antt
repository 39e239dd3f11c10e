use Rattle.std.proofs.Common.{sym, ◌∙◌}
use Rattle.tmds_word.specs.Lent.{columns_in}
use Rattle.tmds_word.specs.Words.{columns_of}
use Rattle.tmds_word.proofs.Lent.{columns_first}
use Rattle.tmds_word.proofs.columns.Columns.first.Goals as goal

pub returns : goal.returns
unfolding columns_in
returns c =
    let s = c.args.self.now in
    (λ i. columns_of (c.front.ensures i) (c.front-2.ensures i) (c.front-3.ensures i)) ∙ sym (columns_first c.args.count s.blue.now s.green.now s.red.now)
