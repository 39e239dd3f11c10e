use Rattle.tmds_word.proofs.Words.{turns_by_mask}
use Rattle.tmds_word.proofs.word.Word.turns.Goals as goal

pub returns : goal.returns
returns c = rw (← c.self.view_is) (turns_by_mask c.self.inside.value c.self.invariant)
