use Rattle.terc4.proofs.Words.{guard_apart}
use Rattle.terc4.proofs.laws.guard_apart.Goals as goal

pub returns : goal.returns
returns c = guard_apart
