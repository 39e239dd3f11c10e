use Rattle.relay.proofs.Below.{facts}
use Rattle.relay.proofs.Local.{line_relayed, island_relayed}
use Rattle.relay.proofs.laws.alone_relayed.Goals as goal

pub returns-clause-line : goal.returns-clause-line
returns-clause-line c = line_relayed facts

pub returns-clause-island : goal.returns-clause-island
returns-clause-island c = island_relayed facts
