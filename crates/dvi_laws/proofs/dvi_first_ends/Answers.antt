use Rattle.dvi_laws.proofs.Lanes.{first_is_end}
use Rattle.dvi_laws.proofs.dvi_first_ends.Goals as goal

pub returns : goal.returns
returns c = first_is_end
