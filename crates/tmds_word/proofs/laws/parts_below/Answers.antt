use Rattle.tmds_word.proofs.Turns.{parts_at_least}
use Rattle.tmds_word.proofs.laws.parts_below.Goals as goal

pub returns : goal.returns
returns c = parts_at_least
