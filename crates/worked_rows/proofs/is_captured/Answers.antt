use Rattle.worked_rows.proofs.Captured.{captured}
use Rattle.worked_rows.proofs.is_captured.Goals as goal

pub returns : goal.returns
returns c = captured
