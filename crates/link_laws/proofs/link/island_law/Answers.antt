use Rattle.link_laws.proofs.PeriodLaws.{island_law}
use Rattle.link_laws.proofs.link.island_law.Goals as goal

pub returns : goal.returns
returns c = island_law
