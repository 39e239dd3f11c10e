use Rattle.listing_writer.specs.ContentText.{content_lines, lines_after, fault_line_count}
use Rattle.sampling.proofs.tally.Tally.open.Goals as goal

pub returns : goal.returns
unfolding content_lines lines_after fault_line_count
returns c = record { recalls = c.open.ensures.fresh; faults = c.open.ensures.faults; counted = c.new.ensures }
