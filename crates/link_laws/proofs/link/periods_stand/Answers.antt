use Rattle.link_laws.proofs.CutPeriods.{periods_stand}
use Rattle.link_laws.proofs.link.periods_stand.Goals as goal

pub returns : goal.returns
returns c = periods_stand
