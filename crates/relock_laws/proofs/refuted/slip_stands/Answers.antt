use Rattle.relock_laws.proofs.SlipUnrefuted as laws
use Rattle.relock_laws.proofs.refuted.slip_stands.Goals as goal

pub returns : goal.returns
returns c = laws.slip_stands
