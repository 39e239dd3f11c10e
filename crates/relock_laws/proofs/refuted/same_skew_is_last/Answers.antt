use Rattle.relock_laws.proofs.RefutingAgain.{same_skew_is_last}
use Rattle.relock_laws.proofs.SkewColumns.{same_skew_is_accounted}
use Rattle.relock_laws.proofs.refuted.same_skew_is_last.Goals as goal

pub returns-clause-last : goal.returns-clause-last
returns-clause-last c = same_skew_is_last

pub returns-clause-accounted : goal.returns-clause-accounted
returns-clause-accounted c = same_skew_is_accounted
