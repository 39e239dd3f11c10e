use Rattle.tmds_word.proofs.Turns.{parts_at_most}
use Rattle.tmds_word.proofs.laws.cut_above.Goals as goal

pub returns : goal.returns
returns c = parts_at_most
