use Rattle.link_laws.proofs.Local.{island_anywhere}
use Rattle.link_laws.proofs.link.island_anywhere.Goals as goal

pub returns : goal.returns
returns c = island_anywhere
