use Rattle.terc4.specs.Tables.{video_guard}
use Rattle.source_end.proofs.spell.guard_words.Goals as goal

pub returns : goal.returns
unfolding video_guard
returns c = λ i. record { blue = c.of.ensures i; green = c.of-2.ensures i; red = c.of-3.ensures i }
