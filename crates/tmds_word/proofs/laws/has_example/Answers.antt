use Rattle.tmds_word.proofs.Example.{example}
use Rattle.tmds_word.proofs.laws.has_example.Goals as goal

pub returns : goal.returns
returns c = example
