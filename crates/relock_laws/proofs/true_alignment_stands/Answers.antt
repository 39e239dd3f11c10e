use Rattle.relock_laws.proofs.Standing.{payload_stands, until_stands}
use Rattle.relock_laws.proofs.true_alignment_stands.Goals as goal

pub returns-clause-payload : goal.returns-clause-payload
returns-clause-payload c = payload_stands

pub returns-clause-until : goal.returns-clause-until
returns-clause-until c = until_stands
