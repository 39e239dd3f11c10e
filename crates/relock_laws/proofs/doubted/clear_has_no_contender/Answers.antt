use Rattle.relock_laws.proofs.ClearEnds as laws
use Rattle.relock_laws.proofs.doubted.clear_has_no_contender.Goals as goal

pub returns : goal.returns
returns c = laws.clear_has_no_contender
