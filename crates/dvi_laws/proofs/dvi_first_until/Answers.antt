use Rattle.dvi_laws.proofs.FirstUntil.{dvi_first_until}
use Rattle.dvi_laws.proofs.dvi_first_until.Goals as goal

pub returns : goal.returns
returns c = dvi_first_until
