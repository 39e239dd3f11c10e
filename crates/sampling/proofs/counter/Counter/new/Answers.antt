use Rattle.std.proofs.Common.{arith}
use Rattle.listing_writer.specs.ContentText.{content_lines, lines_after}
use Rattle.listing_writer.specs.Listed.{listed_from}
use Rattle.sampling.specs.Counts.{lines_with}
use Rattle.sampling.proofs.counter.Counter.new.Goals as goal

pub returns : goal.returns
unfolding content_lines lines_after listed_from lines_with
returns c = grind arith
