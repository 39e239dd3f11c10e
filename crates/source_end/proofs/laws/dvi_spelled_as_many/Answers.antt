use Rattle.source_end.specs.Laws.{DviSpelledAsMany}
use Rattle.source_end.proofs.Streams.{DviSpells-length}
use Rattle.source_end.proofs.laws.dvi_spelled_as_many.Goals as goal

pub returns : goal.returns
unfolding DviSpelledAsMany
returns c = DviSpells-length
