use Rattle.infoframe.proofs.Law.{written_is_read}
use Rattle.infoframe.proofs.laws.written_is_read.Goals as goal

pub returns : goal.returns
returns c = written_is_read
