use Rattle.worked_rows.proofs.Refused.{are_refused}
use Rattle.worked_rows.proofs.are_refused.Goals as goal

pub returns : goal.returns
returns c = are_refused
