use Rattle.period_grammar.proofs.Sizes.{all_are_sized}
use Rattle.period_grammar.proofs.laws.sizes.Goals as goal

pub returns : goal.returns
returns c = λ cs. all_are_sized cs
