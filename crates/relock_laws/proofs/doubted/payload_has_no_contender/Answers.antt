use Rattle.relock_laws.proofs.Uncontended as laws
use Rattle.relock_laws.proofs.doubted.payload_has_no_contender.Goals as goal

pub returns : goal.returns
returns c = laws.payload_has_no_contender
