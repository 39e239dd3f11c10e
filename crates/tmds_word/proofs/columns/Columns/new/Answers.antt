use Rattle.std.proofs.Common.{refl}
use Rattle.tmds_word.specs.Lent.{columns_in}
use Rattle.tmds_word.proofs.columns.Columns.new.Goals as goal

pub returns : goal.returns
unfolding columns_in
returns c = refl
