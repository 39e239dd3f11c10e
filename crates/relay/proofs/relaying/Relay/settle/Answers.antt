use Rattle.std.proofs.Common.{◌-◌, arith}
use Rattle.relay.proofs.Going.{settled_has}
use Rattle.relay.proofs.relaying.Relay.settle.Goals as goal

pub returns-clause-settled : goal.returns-clause-settled
returns-clause-settled c t b good h = grind (arith, settled_has)
