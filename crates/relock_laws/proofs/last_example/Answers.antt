use Rattle.relock_laws.proofs.Examples.{last_example}
use Rattle.relock_laws.proofs.last_example.Goals as goal

pub returns : goal.returns
returns c = last_example
