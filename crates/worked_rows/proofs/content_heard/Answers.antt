use Rattle.worked_rows.proofs.Content.{content_heard}
use Rattle.worked_rows.proofs.content_heard.Goals as goal

pub returns : goal.returns
returns c = content_heard
