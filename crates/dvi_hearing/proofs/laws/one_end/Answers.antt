use Rattle.dvi_hearing.proofs.OneAnswer.{one_end}
use Rattle.dvi_hearing.proofs.laws.one_end.Goals as goal

pub returns : goal.returns
returns c = one_end
