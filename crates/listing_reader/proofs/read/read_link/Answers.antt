use Rattle.std.proofs.Common.{subst}
use Rattle.listing_reader.specs.Answers.{Answers}
use Rattle.listing_reader.specs.Drafts.{Draft}
use Rattle.listing_reader.specs.Lines.{pieces_of}
use Rattle.listing_reader.specs.LineSteps.{read_lines}
use Rattle.listing_reader.specs.Reading.{link_step, reads_as}
use Rattle.listing_reader.proofs.read.read_link.Goals as goal

pub returns-clause-answers : goal.returns-clause-answers
unfolding reads_as
returns-clause-answers g c = λ text known.
    subst (λ (draft : Draft). Answers (read_lines link_step 1 0 draft (pieces_of text)) c.read_lines.result) c.new.ensures (c.read_lines.ensures.answers text known)
