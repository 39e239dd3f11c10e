use Rattle.relock_laws.proofs.WholeAmid as laws
use Rattle.relock_laws.proofs.amid.rows_after.Goals as goal

pub returns : goal.returns
returns c = laws.rows_after
