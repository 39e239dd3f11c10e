use Rattle.terc4.proofs.Words.{terc_distinct}
use Rattle.terc4.proofs.laws.terc_distinct.Goals as goal

pub returns : goal.returns
returns c = terc_distinct
