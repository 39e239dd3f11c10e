use Rattle.worked_rows.proofs.Fields.{sample_row}
use Rattle.worked_rows.proofs.sample_row.Goals as goal

pub returns : goal.returns
returns c = sample_row
