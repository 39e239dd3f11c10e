use Rattle.std.proofs.Common.{List, subst}
use Rattle.island_pack.specs.Periods.{Period}
use Rattle.listing_reader.specs.Answers.{Answers}
use Rattle.listing_reader.specs.Lines.{pieces_of}
use Rattle.listing_reader.specs.LineSteps.{read_lines}
use Rattle.listing_reader.specs.DviReading.{dvi_step, dvi_reads_as}
use Rattle.listing_reader.proofs.read.read_dvi.Goals as goal

pub returns-clause-answers : goal.returns-clause-answers
unfolding dvi_reads_as
returns-clause-answers g c = λ text known.
    subst (λ (ps : List Period). Answers (read_lines dvi_step 1 0 ps (pieces_of text)) c.read_lines.result) c.new.ensures (c.read_lines.ensures.answers text known)
