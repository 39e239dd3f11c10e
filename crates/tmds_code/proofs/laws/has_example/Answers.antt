use Rattle.tmds_code.proofs.Example.{example}
use Rattle.tmds_code.proofs.laws.has_example.Goals as goal

pub returns : goal.returns
returns c = example
