use Rattle.link_laws.proofs.PeriodLaws.{control_law}
use Rattle.link_laws.proofs.link.control_law.Goals as goal

pub returns : goal.returns
returns c = control_law
