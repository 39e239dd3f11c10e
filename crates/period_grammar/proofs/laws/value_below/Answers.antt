use Rattle.period_grammar.proofs.Sizes.{value_of_below}
use Rattle.period_grammar.proofs.laws.value_below.Goals as goal

pub returns : goal.returns
returns c = value_of_below
