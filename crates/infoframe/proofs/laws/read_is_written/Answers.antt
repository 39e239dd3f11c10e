use Rattle.infoframe.proofs.Law.{read_is_written}
use Rattle.infoframe.proofs.laws.read_is_written.Goals as goal

pub returns : goal.returns
returns c = read_is_written
