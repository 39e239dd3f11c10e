use Rattle.terc4.proofs.Words.{control_turns}
use Rattle.terc4.proofs.laws.control_turns.Goals as goal

pub returns : goal.returns
returns c = control_turns
