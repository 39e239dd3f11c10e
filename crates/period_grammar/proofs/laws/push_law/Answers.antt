use Rattle.period_grammar.proofs.Pushed.{push_law}
use Rattle.period_grammar.proofs.laws.push_law.Goals as goal

pub returns : goal.returns
returns c = push_law
