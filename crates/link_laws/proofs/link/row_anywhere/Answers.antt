use Rattle.link_laws.proofs.LocalStream.{row_anywhere}
use Rattle.link_laws.proofs.link.row_anywhere.Goals as goal

pub returns : goal.returns
returns c = row_anywhere
