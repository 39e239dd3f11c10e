use Rattle.link_laws.proofs.Freely.{free_received}
use Rattle.link_laws.proofs.link.free_received.Goals as goal

pub returns : goal.returns
returns c = free_received
