use Rattle.tmds_word.proofs.Lent.{lent_blue}
use Rattle.tmds_word.proofs.columns.Columns.len.Goals as goal

pub returns : goal.returns
returns c = lent_blue c.args.self.now
