use Rattle.tmds_word.proofs.Turns.{part_of_word}
use Rattle.tmds_word.proofs.laws.part_of_word.Goals as goal

pub returns : goal.returns
returns c = part_of_word
