use Rattle.std.proofs.Common.{◌==◌, ap, ◌∙◌}
use Rattle.tmds_word.proofs.Lent.{lent_blue}
use Rattle.tmds_word.proofs.columns.Columns.is_empty.Goals as goal

pub returns : goal.returns
returns c = c.is_empty.ensures ∙ ap (λ n. n == 0) (lent_blue c.args.self.now)
