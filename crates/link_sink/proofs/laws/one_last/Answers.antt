use Rattle.link_sink.proofs.OneAnswer.{one_last}
use Rattle.link_sink.proofs.laws.one_last.Goals as goal

pub returns : goal.returns
returns c = one_last
