use Rattle.track_laws.proofs.Ends.{at_most_two}
use Rattle.track_laws.proofs.at_most_two.Goals as goal

pub returns : goal.returns
returns c = at_most_two
