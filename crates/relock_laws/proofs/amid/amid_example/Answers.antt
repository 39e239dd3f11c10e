use Rattle.relock_laws.proofs.AmidExample as laws
use Rattle.relock_laws.proofs.amid.amid_example.Goals as goal

pub returns : goal.returns
returns c = laws.amid_example
