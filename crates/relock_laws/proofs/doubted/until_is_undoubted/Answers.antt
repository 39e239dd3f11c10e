use Rattle.relock_laws.proofs.Undoubted as laws
use Rattle.relock_laws.proofs.doubted.until_is_undoubted.Goals as goal

pub returns : goal.returns
returns c = laws.until_is_undoubted
