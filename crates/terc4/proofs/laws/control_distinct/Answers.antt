use Rattle.terc4.proofs.Words.{control_distinct}
use Rattle.terc4.proofs.laws.control_distinct.Goals as goal

pub returns : goal.returns
returns c = control_distinct
