use Rattle.relock_laws.proofs.Settling.{settles_at_period}
use Rattle.relock_laws.proofs.settles_at_period.Goals as goal

pub returns : goal.returns
returns c = settles_at_period
