use Rattle.dvi_laws.proofs.Example.{example}
use Rattle.dvi_laws.proofs.dvi_example.Goals as goal

pub returns : goal.returns
returns c = example
