use Rattle.relock_laws.proofs.SkewedExample as laws
use Rattle.relock_laws.proofs.refuted.skewed_example.Goals as goal

pub returns : goal.returns
returns c = laws.skewed_example
