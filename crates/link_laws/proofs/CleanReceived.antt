-- Clean columns that end in a control period were received as they were sent, with no damage.
use Rattle.island_pack.specs.Periods.{control}
use Rattle.std.proofs.Common.{◌∷◌}
use Rattle.link_laws.specs.Freely.{CleanReceived}
use Rattle.link_laws.proofs.Freely.{spared}
use Rattle.link_laws.proofs.exact.Wholes.{clean_is_whole}

pub clean_received : CleanReceived
clean_received cs narrow clean ends =
    let w = clean_is_whole cs clean ends in
    (control w.runs ∷ w.periods, record { conforming = w.conforming; spelled = w.spells; sparse = spared (control w.runs ∷ w.periods) cs narrow })
