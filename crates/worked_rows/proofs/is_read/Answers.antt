use Rattle.worked_rows.proofs.Read.{read}
use Rattle.worked_rows.proofs.is_read.Goals as goal

pub returns : goal.returns
returns c = read
