use Rattle.relock_laws.proofs.WholeExample as laws
use Rattle.relock_laws.proofs.refuted.whole_example.Goals as goal

pub returns : goal.returns
returns c = laws.whole_example
