use Rattle.relock_laws.proofs.Examples.{slip_end_example}
use Rattle.relock_laws.proofs.slip_end_example.Goals as goal

pub returns : goal.returns
returns c = slip_end_example
