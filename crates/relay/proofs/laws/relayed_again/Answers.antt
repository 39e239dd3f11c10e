use Rattle.relay.proofs.Below.{facts}
use Rattle.relay.proofs.Own.{relayed_again}
use Rattle.relay.proofs.laws.relayed_again.Goals as goal

pub returns : goal.returns
returns c = relayed_again facts
