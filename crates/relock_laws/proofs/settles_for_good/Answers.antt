use Rattle.relock_laws.proofs.Settling.{settles_for_good}
use Rattle.relock_laws.proofs.settles_for_good.Goals as goal

pub returns : goal.returns
returns c = settles_for_good
