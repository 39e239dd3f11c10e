use Rattle.worked_rows.proofs.Heard.{heard}
use Rattle.worked_rows.proofs.is_heard.Goals as goal

pub returns : goal.returns
returns c = heard
