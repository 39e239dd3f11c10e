use Rattle.dvi_laws.proofs.LocalLanes.{dvi_aligned_whatever_follows}
use Rattle.dvi_laws.proofs.dvi_aligned_whatever_follows.Goals as goal

pub returns : goal.returns
returns c = dvi_aligned_whatever_follows
