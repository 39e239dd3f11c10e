use Rattle.relock_laws.proofs.RefutingExamples as laws
use Rattle.relock_laws.proofs.refuted.unrefuted_example.Goals as goal

pub returns : goal.returns
returns c = laws.unrefuted_example
