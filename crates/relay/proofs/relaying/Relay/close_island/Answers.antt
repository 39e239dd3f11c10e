use Rattle.std.proofs.Common.{◌≤◌, length, None, subst, sym}
use Rattle.island_pack.specs.Periods.{DataIsland}
use Rattle.relay.specs.Relayed.{an_island, ended}
use Rattle.relay.specs.Steps.{Steps}
use Rattle.relay.proofs.relaying.Relay.close_island.Goals as goal

pub returns-clause-some : goal.returns-clause-some
returns-clause-some c some few t good h =
    let e = c.set_closing.ensures in
    let f = subst (λ (x : DataIsland). length x.packets ≤ 18) (sym e) few in
    subst (λ (x : DataIsland). Steps c.send_island.new.self c.send_island.result (ended t (an_island x)) None good) e (c.send_island.ensures.steps f t good h)
