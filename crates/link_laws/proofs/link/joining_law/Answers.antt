use Rattle.link_laws.proofs.PeriodLaws.{joining_law}
use Rattle.link_laws.proofs.link.joining_law.Goals as goal

pub returns : goal.returns
returns c = joining_law
