use Rattle.relock_laws.proofs.RefutingExamples as laws
use Rattle.relock_laws.proofs.refuted.slip_first_example.Goals as goal

pub returns : goal.returns
returns c = laws.slip_first_example
