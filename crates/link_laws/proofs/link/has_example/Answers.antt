use Rattle.link_laws.proofs.Example.{example}
use Rattle.link_laws.proofs.link.has_example.Goals as goal

pub returns : goal.returns
returns c = example
