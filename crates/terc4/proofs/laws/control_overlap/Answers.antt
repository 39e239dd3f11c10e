use Rattle.terc4.proofs.Words.{control_overlap}
use Rattle.terc4.proofs.laws.control_overlap.Goals as goal

pub returns : goal.returns
returns c = control_overlap
