use Rattle.listing_writer.proofs.ContentAdding.{adds_line}
use Rattle.listing_writer.proofs.content_lines.Lines.add.Goals as goal

pub returns-clause-added : goal.returns-clause-added
returns-clause-added c words is plain =
    adds_line c.args.self.now c.put.new.self _ _ words c.put.ensures.text c.as_slice.ensures.value is c.put.ensures.faults plain
