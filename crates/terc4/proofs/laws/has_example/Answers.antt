use Rattle.terc4.proofs.Example.{example}
use Rattle.terc4.proofs.laws.has_example.Goals as goal

pub returns : goal.returns
returns c = example
