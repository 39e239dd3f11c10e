use Rattle.worked_rows.proofs.Content.{content_read}
use Rattle.worked_rows.proofs.content_read.Goals as goal

pub returns : goal.returns
returns c = content_read
