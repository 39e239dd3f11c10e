use Rattle.relay.proofs.Below.{facts}
use Rattle.relay.proofs.Accounting.{relayed_account}
use Rattle.relay.proofs.laws.relayed_account.Goals as goal

pub returns : goal.returns
returns c = relayed_account facts
