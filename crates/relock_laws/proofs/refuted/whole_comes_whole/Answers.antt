use Rattle.relock_laws.proofs.WholeColumns as laws
use Rattle.relock_laws.proofs.refuted.whole_comes_whole.Goals as goal

pub returns : goal.returns
returns c = laws.whole_comes_whole
