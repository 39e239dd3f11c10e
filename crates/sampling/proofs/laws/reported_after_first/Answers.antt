use Rattle.sampling.proofs.After.{reported_after_first}
use Rattle.sampling.proofs.laws.reported_after_first.Goals as goal

pub returns : goal.returns
returns c = reported_after_first
