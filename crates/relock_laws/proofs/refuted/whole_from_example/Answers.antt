use Rattle.relock_laws.proofs.WholeFromExample as laws
use Rattle.relock_laws.proofs.refuted.whole_from_example.Goals as goal

pub returns : goal.returns
returns c = laws.whole_from_example
