use Rattle.terc4.proofs.Words.{control_shape}
use Rattle.terc4.proofs.laws.control_shape.Goals as goal

pub returns : goal.returns
returns c = control_shape
