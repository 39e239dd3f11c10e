use Rattle.tmds_word.proofs.Turns.{calm_cut}
use Rattle.tmds_word.proofs.laws.calm_below.Goals as goal

pub returns : goal.returns
returns c = calm_cut
