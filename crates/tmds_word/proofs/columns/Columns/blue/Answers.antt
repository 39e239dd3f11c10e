use Rattle.std.proofs.Common.{sym}
use Rattle.tmds_word.proofs.Lent.{lanes}
use Rattle.tmds_word.proofs.columns.Columns.blue.Goals as goal

pub returns-clause-lane : goal.returns-clause-lane
returns-clause-lane c = sym (lanes c.args.self.now).blue
