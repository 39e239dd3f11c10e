use Rattle.infoframe.proofs.Law.{one_spelling}
use Rattle.infoframe.proofs.laws.one_spelling.Goals as goal

pub returns : goal.returns
returns c = one_spelling
