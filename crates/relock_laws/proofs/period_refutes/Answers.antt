use Rattle.relock_laws.proofs.Refuting as refuting
use Rattle.relock_laws.proofs.period_refutes.Goals as goal

pub returns : goal.returns
returns c = refuting.period_refutes
