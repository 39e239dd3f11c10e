use Rattle.tmds_code.proofs.Vectors.{zipped, add}
use Rattle.tmds_code.proofs.sixteen.counts_of.Goals as goal

pub returns : goal.returns
returns c = zipped add c.by_low.ensures c.by_high.ensures
