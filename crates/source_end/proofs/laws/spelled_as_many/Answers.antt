use Rattle.source_end.specs.Laws.{SpelledAsMany}
use Rattle.source_end.proofs.Streams.{Spells-length}
use Rattle.source_end.proofs.laws.spelled_as_many.Goals as goal

pub returns : goal.returns
unfolding SpelledAsMany
returns c = Spells-length
