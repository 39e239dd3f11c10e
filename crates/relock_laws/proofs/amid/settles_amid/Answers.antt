use Rattle.relock_laws.proofs.WholeAmid as laws
use Rattle.relock_laws.proofs.amid.settles_amid.Goals as goal

pub returns : goal.returns
returns c = laws.settles_amid
