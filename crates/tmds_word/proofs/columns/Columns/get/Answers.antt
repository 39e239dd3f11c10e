use Rattle.std.proofs.Common.{arith}
use Rattle.tmds_word.specs.Lent.{columns_in}
use Rattle.tmds_word.proofs.Lent.{column_here, lent_blue}
use Rattle.tmds_word.proofs.columns.Columns.get.Goals as goal

pub returns : goal.returns
unfolding columns_in
returns c = grind (arith, lent_blue, column_here)
