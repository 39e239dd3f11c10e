use Rattle.terc4.proofs.Words.{guard_turns}
use Rattle.terc4.proofs.laws.guard_turns.Goals as goal

pub returns : goal.returns
returns c = guard_turns
