use Rattle.relock_laws.proofs.RefutingSettling as laws
use Rattle.relock_laws.proofs.refuted.settled_has_skew.Goals as goal

pub returns : goal.returns
returns c = laws.settled_has_skew
