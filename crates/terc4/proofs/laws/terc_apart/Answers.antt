use Rattle.terc4.proofs.Words.{terc_apart}
use Rattle.terc4.proofs.laws.terc_apart.Goals as goal

pub returns : goal.returns
returns c = terc_apart
