use Rattle.link_sink.proofs.OneAnswer.{one_alignment}
use Rattle.link_sink.proofs.laws.one_alignment.Goals as goal

pub returns : goal.returns
returns c = one_alignment
