use Rattle.relock_laws.proofs.WholeSettling as laws
use Rattle.relock_laws.proofs.refuted.settles_at_whole.Goals as goal

pub returns-clause-some : goal.returns-clause-some
returns-clause-some c = laws.settles_at_whole

pub returns-clause-skew : goal.returns-clause-skew
returns-clause-skew c = laws.whole_has_skew
