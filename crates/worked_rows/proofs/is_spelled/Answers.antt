use Rattle.worked_rows.proofs.Spelled.{spelled}
use Rattle.worked_rows.proofs.is_spelled.Goals as goal

pub returns : goal.returns
returns c = spelled
