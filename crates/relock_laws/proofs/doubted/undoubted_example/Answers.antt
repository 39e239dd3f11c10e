use Rattle.relock_laws.proofs.UndoubtedExample as laws
use Rattle.relock_laws.proofs.doubted.undoubted_example.Goals as goal

pub returns : goal.returns
returns c = laws.undoubted_example
