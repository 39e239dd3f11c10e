use Rattle.infoframe.proofs.Refusals.{length_below}
use Rattle.infoframe.proofs.lent.InfoRef.payload.Goals as goal

pub returns-clause-long : goal.returns-clause-long
returns-clause-long c = length_below _ _ c.self.invariant
