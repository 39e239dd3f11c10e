use Rattle.relock_laws.proofs.Unrefuted as unrefuted
use Rattle.relock_laws.proofs.refuted.ends_or_is_unrefuted.Goals as goal

pub returns-clause-some : goal.returns-clause-some
returns-clause-some c = unrefuted.ends_or_is_unrefuted

pub returns-clause-one : goal.returns-clause-one
returns-clause-one c = unrefuted.one_refuting_end
