use Rattle.infoframe.proofs.Law.{one_writing}
use Rattle.infoframe.proofs.laws.one_writing.Goals as goal

pub returns : goal.returns
returns c = one_writing
