use Rattle.relay.proofs.Below.{facts}
use Rattle.relay.proofs.Own.{own_relayed}
use Rattle.relay.proofs.laws.own_relayed.Goals as goal

pub returns : goal.returns
returns c = own_relayed facts
