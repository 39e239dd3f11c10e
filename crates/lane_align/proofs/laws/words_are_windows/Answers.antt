use Rattle.lane_align.proofs.Words.{word_from}
use Rattle.lane_align.proofs.laws.words_are_windows.Goals as goal

pub returns : goal.returns
returns c = word_from
