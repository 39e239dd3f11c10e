use Rattle.relay.proofs.OneSpelling.{one_spelling}
use Rattle.relay.proofs.laws.one_spelling.Goals as goal

pub returns : goal.returns
returns c = one_spelling
