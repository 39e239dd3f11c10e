use Rattle.relay.proofs.Below.{facts}
use Rattle.relay.proofs.Own.{whole_relayed}
use Rattle.relay.proofs.laws.whole_relayed.Goals as goal

pub returns : goal.returns
returns c = whole_relayed facts
