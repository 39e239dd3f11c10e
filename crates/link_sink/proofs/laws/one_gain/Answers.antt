use Rattle.link_sink.proofs.OneAnswer.{one_gain, one_gain_at}
use Rattle.link_sink.proofs.laws.one_gain.Goals as goal

pub returns-clause-events : goal.returns-clause-events
returns-clause-events c = one_gain

pub returns-clause-columns : goal.returns-clause-columns
returns-clause-columns c = one_gain_at
