use Rattle.relock_laws.proofs.Standing as standing
use Rattle.relock_laws.proofs.ends_open.Goals as goal

pub returns : goal.returns
returns c = standing.ends_open
