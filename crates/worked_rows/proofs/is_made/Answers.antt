use Rattle.worked_rows.proofs.Made.{made}
use Rattle.worked_rows.proofs.is_made.Goals as goal

pub returns : goal.returns
returns c = made
