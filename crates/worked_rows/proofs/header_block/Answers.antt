use Rattle.worked_rows.proofs.Codes.{header_block}
use Rattle.worked_rows.proofs.header_block.Goals as goal

pub returns : goal.returns
returns c = header_block
