use Rattle.sampling.proofs.After.{generated_in_order}
use Rattle.sampling.proofs.laws.generated_in_order.Goals as goal

pub returns : goal.returns
returns c = generated_in_order
