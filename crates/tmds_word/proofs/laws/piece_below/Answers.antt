use Rattle.tmds_word.proofs.Turns.{turns_piece}
use Rattle.tmds_word.proofs.laws.piece_below.Goals as goal

pub returns : goal.returns
returns c = turns_piece
