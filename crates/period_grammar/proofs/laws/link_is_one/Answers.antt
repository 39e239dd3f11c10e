use Rattle.period_grammar.proofs.LinkOne.{link_is_one}
use Rattle.period_grammar.proofs.laws.link_is_one.Goals as goal

pub returns : goal.returns
returns c = link_is_one
