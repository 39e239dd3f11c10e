use Rattle.std.proofs.Common.{subst}
use Rattle.listing_reader.specs.Answers.{Answers}
use Rattle.listing_reader.specs.ContentDrafts.{no_content}
use Rattle.listing_reader.specs.ContentKept.{ContentKept, kept_step}
use Rattle.listing_reader.specs.ContentReading.{content_reads_as}
use Rattle.listing_reader.specs.Lines.{pieces_of}
use Rattle.listing_reader.specs.LineSteps.{read_lines}
use Rattle.listing_reader.proofs.ContentKept.{kept_reads, none_sound}
use Rattle.listing_reader.proofs.read.read_content.Goals as goal

pub returns-clause-answers : goal.returns-clause-answers
unfolding content_reads_as
returns-clause-answers g c = λ text known.
    let pieces = pieces_of text in
    subst (λ reading. Answers reading c.read_lines.result) (kept_reads 1 0 no_content none_sound pieces)
    (subst (λ (k : ContentKept). Answers (read_lines kept_step 1 0 k pieces) c.read_lines.result) c.new.ensures (c.read_lines.ensures.answers text known))
