use Rattle.link_laws.proofs.Local.{island_closes_anywhere}
use Rattle.link_laws.proofs.link.island_closes_anywhere.Goals as goal

pub returns : goal.returns
returns c = island_closes_anywhere
