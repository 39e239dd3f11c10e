use Rattle.terc4.proofs.Words.{few_turns}
use Rattle.terc4.proofs.laws.few_turns.Goals as goal

pub returns : goal.returns
returns c = few_turns
