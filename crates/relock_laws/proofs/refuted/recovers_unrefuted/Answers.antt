use Rattle.relock_laws.proofs.RefutingAgain as laws
use Rattle.relock_laws.proofs.refuted.recovers_unrefuted.Goals as goal

pub returns : goal.returns
returns c = laws.recovers_unrefuted
