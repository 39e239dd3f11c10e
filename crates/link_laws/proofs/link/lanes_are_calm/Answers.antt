use Rattle.link_laws.proofs.Calm.{lanes_are_calm}
use Rattle.link_laws.proofs.link.lanes_are_calm.Goals as goal

pub returns : goal.returns
returns c = lanes_are_calm
