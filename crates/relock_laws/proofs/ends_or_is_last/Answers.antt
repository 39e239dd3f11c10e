use Rattle.relock_laws.proofs.Ending.{ends_or_is_last, one_place}
use Rattle.relock_laws.proofs.ends_or_is_last.Goals as goal

pub returns-clause-some : goal.returns-clause-some
returns-clause-some c = ends_or_is_last

pub returns-clause-one : goal.returns-clause-one
returns-clause-one c = one_place
