use Rattle.std.proofs.Common.{arith}
use Rattle.listing_reader.proofs.Parts.{read_more}
use Rattle.listing_reader.proofs.lines.read_after.Goals as goal

pub returns-clause-more : goal.returns-clause-more
returns-clause-more g c = read_more _ _ c.read.result c.args.held _ c.args.bytes.now c.read.new.into (omega arith) c.read.ensures.bound c.read.ensures.bytes
