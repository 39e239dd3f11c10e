use Rattle.relock_laws.proofs.Unrefuted as unrefuted
use Rattle.relock_laws.proofs.refuted.payload_is_last_unrefuted.Goals as goal

pub returns : goal.returns
returns c = unrefuted.payload_is_last_unrefuted
