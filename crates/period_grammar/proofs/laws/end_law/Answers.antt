use Rattle.period_grammar.proofs.Pushed.{end_law}
use Rattle.period_grammar.proofs.laws.end_law.Goals as goal

pub returns : goal.returns
returns c = end_law
