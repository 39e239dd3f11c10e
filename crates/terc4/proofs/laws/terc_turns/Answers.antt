use Rattle.terc4.proofs.Words.{terc_turns}
use Rattle.terc4.proofs.laws.terc_turns.Goals as goal

pub returns : goal.returns
returns c = terc_turns
