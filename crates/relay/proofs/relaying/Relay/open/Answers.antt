use Rattle.std.proofs.Common.{arith}
use Rattle.island_pack.specs.Runs.{longest}
use Rattle.relay.specs.Laws.{turns_in, begun_in}
use Rattle.relay.specs.Relayed.{kept, without_faults, kept_from, nulled, gathered}
use Rattle.relay.proofs.relaying.Relay.open.Goals as goal

pub returns-clause-stands : goal.returns-clause-stands
unfolding turns_in begun_in kept without_faults kept_from nulled gathered longest
returns-clause-stands c = grind arith
