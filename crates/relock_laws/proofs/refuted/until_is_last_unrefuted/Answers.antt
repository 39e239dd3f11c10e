use Rattle.relock_laws.proofs.Unrefuted as unrefuted
use Rattle.relock_laws.proofs.refuted.until_is_last_unrefuted.Goals as goal

pub returns : goal.returns
returns c = unrefuted.until_is_last_unrefuted
