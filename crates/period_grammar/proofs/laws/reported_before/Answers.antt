use Rattle.period_grammar.proofs.Joined.{reported_before_is}
use Rattle.period_grammar.proofs.laws.reported_before.Goals as goal

pub returns : goal.returns
returns c = reported_before_is
