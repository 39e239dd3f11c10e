use Rattle.relock_laws.proofs.RefutingSettling as laws
use Rattle.relock_laws.proofs.refuted.settles_unrefuted.Goals as goal

pub returns-clause-some : goal.returns-clause-some
returns-clause-some c = laws.settles_by_refuting

pub returns-clause-skew : goal.returns-clause-skew
returns-clause-skew c = laws.settles_unrefuted
