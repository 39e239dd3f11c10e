use Rattle.relock_laws.proofs.WholeSettling as laws
use Rattle.relock_laws.proofs.refuted.recovers_at_whole.Goals as goal

pub returns : goal.returns
returns c = laws.recovers_at_whole
